use Rattle.std.proofs.Common.{◌≡◌, Err, sym, ap, ◌∙◌, arith, rules}
use Rattle.std.proofs.lemmas.Slice.Eq.{text_from_reads}
use Rattle.std.proofs.lemmas.Result.{err_from_is_err_and}
use Rattle.items.specs.Job.{block_word, sweep_word, flush_word, stop_word, job_of, numbered}
use Rattle.items.specs.declared.job.Job.TheVariants.{Block, Sweep}
use Rattle.items.proofs.job.job_of.Goals as goal

pub returns-in_err-read_behind-in-32 : goal.returns-in_err-read_behind-in-32
returns-in_err-read_behind-in-32 c =
    let is : c.args.word.now ≡ block_word = text_from_reads _ _ (omega arith) (search rules) in
    let p = err_from_is_err_and c.from_residual.result c.from_residual.ensures.1 in
    p.1 ∙ ap Err p.2 ∙ ap (numbered Block) (sym c.in_err-read_behind-in-32.was ∙ c.read_behind.ensures) ∙ ap (λ w. job_of w c.args.rest.now) (sym is)

pub returns-in_ok-read_behind-in-32 : goal.returns-in_ok-read_behind-in-32
returns-in_ok-read_behind-in-32 c =
    let is : c.args.word.now ≡ block_word = text_from_reads _ _ (omega arith) (search rules) in
    ap (numbered Block) (sym c.in_ok-read_behind-in-32.was ∙ c.read_behind.ensures) ∙ ap (λ w. job_of w c.args.rest.now) (sym is)

pub returns-in_err-read_behind-in-32-2 : goal.returns-in_err-read_behind-in-32-2
returns-in_err-read_behind-in-32-2 c =
    let is : c.args.word.now ≡ sweep_word = text_from_reads _ _ (omega arith) (search rules) in
    let p = err_from_is_err_and c.from_residual-in_err-read_behind-in-32-2.result c.from_residual-in_err-read_behind-in-32-2.ensures.1 in
    p.1 ∙ ap Err p.2 ∙ ap (numbered Sweep) (sym c.in_err-read_behind-in-32-2.was ∙ c.read_behind-in-32-2.ensures) ∙ ap (λ w. job_of w c.args.rest.now) (sym is)

pub returns-in_ok-read_behind-in-32-2 : goal.returns-in_ok-read_behind-in-32-2
returns-in_ok-read_behind-in-32-2 c =
    let is : c.args.word.now ≡ sweep_word = text_from_reads _ _ (omega arith) (search rules) in
    ap (numbered Sweep) (sym c.in_ok-read_behind-in-32-2.was ∙ c.read_behind-in-32-2.ensures) ∙ ap (λ w. job_of w c.args.rest.now) (sym is)

pub returns-in-32-3 : goal.returns-in-32-3
returns-in-32-3 c =
    let is : c.args.word.now ≡ flush_word = text_from_reads _ _ (omega arith) (search rules) in
    c.bare.ensures ∙ ap (λ w. job_of w c.args.rest.now) (sym is)

pub returns-in-32-4 : goal.returns-in-32-4
returns-in-32-4 c =
    let is : c.args.word.now ≡ stop_word = text_from_reads _ _ (omega arith) (search rules) in
    c.bare-in-32-4.ensures ∙ ap (λ w. job_of w c.args.rest.now) (sym is)
