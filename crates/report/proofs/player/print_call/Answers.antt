-- The line that was written stands behind what was printed before.
use Rattle.std.proofs.Common.{cond, ◌++◌, replicate, is_ok, vec_items, sym, refl, ap, ◌∙◌}
use Rattle.std.proofs.lemmas.Bool.{cond-true}
use Rattle.lines.specs.CallLine.{is_printed, call_line}
use Rattle.report.specs.Running.{has_line, line_bytes}
use Rattle.lines.proofs.CallLines.{line_done, line_wide}
use Rattle.report.proofs.player.print_call.Goals as goal

pub returns : goal.returns
returns g c =
    let text = g.I.ItemKind.text in
    let line = c.write_call.new.buffer in
    let before = vec_items c.args.out.now in
    let is = line_done (call_line text c.args.call c.args.worker c.args.reply) (replicate 45 0) line c.in_ok-write_call.field-0 refl
    (line_wide text g.met.I.ItemKind.wide c.args.call c.args.worker c.args.reply) (ap (λ x. (x, line)) (sym c.in_ok-write_call.was) ∙ c.write_call.ensures) in
    let shows = cond-true (is_printed c.args.reply) _ _ (sym c.prints.ensures ∙ c.if-not-prints.false) ∙ is in
    let was = c.in_ok-extend_from_slice.was in (
      ap has_line shows,
      c.extend_from_slice.ensures.items ∙ ap (λ r. cond (is_ok r) (before ++ line) before) was ∙ ap (λ x. before ++ line_bytes x) (sym shows),
    )
