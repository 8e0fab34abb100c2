use Rattle.std.proofs.Common.{sym, ap, take, drop, ◌∙◌, arith, length-drop}
use Rattle.std.proofs.lemmas.List.{take_all}
use Rattle.items.specs.Job.{job_of, job_reading}
use Rattle.items.proofs.job.JobItemKind.read.Goals as goal

pub returns : goal.returns
unfolding job_reading
returns c =
    let cs = c.args.columns.now in
    let whole = take_all 9 (drop 6 cs) (omega (arith, length-drop 6 cs)) in
    c.job_of.ensures
    ∙ ap (λ w. job_of w c.split_at.result.1.now) c.split_at.ensures.front
    ∙ ap (job_of (take 6 cs)) (c.split_at.ensures.back ∙ sym whole)
