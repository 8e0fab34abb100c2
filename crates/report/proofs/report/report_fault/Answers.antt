-- The line that was written is the report.
use Rattle.std.proofs.Common.{cond, ◌++◌, replicate, is_ok, vec_items, sym, refl, ap, ◌∙◌}
use Rattle.play.specs.FaultLine.{fault_mark, place_fields}
use Rattle.play.specs.Faults.{place_of}
use Rattle.report.proofs.LastLines.{filled}
use Rattle.report.proofs.report.report_fault.Goals as goal

pub returns : goal.returns
returns c =
    let fs = place_fields (place_of c.args.fault) in
    let line = c.write_fault.new.buffer in
    let before = vec_items c.new-out.result in
    let done = filled fault_mark fs (replicate 15 0) line refl c.in_ok-write_fault.field-0 (ap (λ x. (x, line)) (sym c.in_ok-write_fault.was) ∙ c.write_fault.ensures) in
    let was = c.in_ok-extend_from_slice.was in
    (c.extend_from_slice.ensures.items ∙ ap (λ r. cond (is_ok r) (before ++ line) before) was ∙ ap (λ x. x ++ line) c.new-out.ensures.items ∙ done.0, done.1)
