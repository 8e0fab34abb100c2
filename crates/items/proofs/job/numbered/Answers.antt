use Rattle.std.proofs.Common.{◌≡◌, ◌++◌, length, take, drop, pos, Err, sym, refl, ap, ◌∙◌, rules}
use Rattle.std.proofs.lemmas.Result.{err_from_is_err_and}
use Rattle.std.specs.Option.{ok_or}
use Rattle.columns.specs.declared.write_refusal.WriteRefusal.TheVariants.{Range}
use Rattle.columns.proofs.Laws.{written_ok, written_err}
use Rattle.items.specs.Job.{numbered_text, no_number}
use Rattle.items.specs.Jobs.{numbered_put, numbered_past}
use Rattle.items.specs.Parts.{last}
use Rattle.items.proofs.job.numbered.Goals as goal

pub returns-in_err-write_number : goal.returns-in_err-write_number
returns-in_err-write_number c =
    let word = c.copy_from_slice.new.self in
    let room : length word ≡ 6 = search rules in
    let p = err_from_is_err_and c.from_residual.result c.from_residual.ensures.1 in
    let v = written_err 9 (pos c.args.n) (take 9 (drop 6 (word ++ no_number))) c.write_number.new.buffer c.write_number.result c.in_err-write_number.field-0.0 (ap length (last word no_number 6 9 room refl)) c.write_number.ensures c.in_err-write_number.was in
    p.1 ∙ ap (λ x. Err x) (p.2 ∙ v.0)
    ∙ sym (numbered_past c.args.word.now c.args.n v.1)

pub returns : goal.returns
returns c =
    let word = c.copy_from_slice.new.self in
    let same : word ≡ c.args.word.now = search rules in
    let room : length word ≡ 6 = search rules in
    let v = written_ok 9 (pos c.args.n) (take 9 (drop 6 (word ++ no_number))) c.write_number.new.buffer c.write_number.result (ap length (last word no_number 6 9 room refl)) c.write_number.ensures c.in_ok-write_number.was in
    numbered_put word no_number c.write_number.new.buffer c.args.n room refl v.0 v.1
    ∙ ap (λ l. ok_or (numbered_text l c.args.n) Range) same
