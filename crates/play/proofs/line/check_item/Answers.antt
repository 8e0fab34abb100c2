-- A fault's column is one of the item's, so five more still fit.
use Rattle.std.proofs.Common.{◌≤◌, sym, ap, ◌∙◌, rules}
use Rattle.std.specs.Result.{result_err}
use Rattle.items.specs.Patch.{patch_reading}
use Rattle.items.specs.Job.{job_reading}
use Rattle.play.proofs.ItemFaults.{patch_placed, job_placed, placed_fault, passed_fault}
use Rattle.play.proofs.line.check_item.Goals as goal
use Rattle.play.proofs.line.check_item.Goals.{in-Patch, in-Job}

pub map_err-requires : goal.map_err-requires
map_err-requires c = λ fault is.
    let few : fault.column ≤ 15 =
    elim c.match-items.branch [
      | in-Patch w ↦ placed_fault (patch_reading c.args.columns.now) fault (sym (ap result_err w.read.ensures) ∙ passed_fault _ _ _ fault w.map-read.ensures.cases (sym w.read-is ∙ is)) (patch_placed c.args.columns.now)
      | in-Job w ↦ placed_fault (job_reading c.args.columns.now) fault (sym (ap result_err w.read-in-Job.ensures) ∙ passed_fault _ _ _ fault w.map-read-in-Job.ensures.cases (sym w.read-is ∙ is)) (job_placed c.args.columns.now)
    ] in
    search rules
