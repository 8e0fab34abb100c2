-- The line that was written stands behind what was printed before.
use Rattle.std.proofs.Common.{cond, ◌++◌, replicate, is_ok, vec_items, sym, refl, ap, ◌∙◌}
use Rattle.columns.specs.Row.{line_text, row_fits}
use Rattle.lines.specs.LastLine.{last_fields, last_mark}
use Rattle.report.proofs.LastLines.{filled}
use Rattle.report.proofs.whole.print_last.Goals as goal

pub returns : goal.returns
returns g c =
    let control = c.args.table.now.control in
    let fs = last_fields control.head control.tail control.closed c.count_occupied.result in
    let line = c.write_last.new.buffer in
    let before = vec_items c.args.out.now in
    let done = filled last_mark fs (replicate 35 0) line refl c.in_ok-write_last.field-0 (ap (λ x. (x, line)) (sym c.in_ok-write_last.was) ∙ c.write_last.ensures) in
    let are = ap (last_fields control.head control.tail control.closed) c.count_occupied.ensures in
    let was = c.in_ok-extend_from_slice.was in (
      ap row_fits (sym are) ∙ done.1,
      c.extend_from_slice.ensures.items ∙ ap (λ r. cond (is_ok r) (before ++ line) before) was ∙ ap (λ x. before ++ x) (done.0 ∙ ap (line_text last_mark) are),
    )
