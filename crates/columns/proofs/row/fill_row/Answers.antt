use Rattle.std.proofs.Common.{◌≡◌, ◌+◌, ◌-◌, leb, length, get_or, take, drop, pos, sym, ap, ◌∙◌, arith, rules}
use borrow.Rule.Slice.PartMut.{put_mid}
use Rattle.std.proofs.lemmas.List.{places, length-take-le, length-drop}
use Rattle.std.proofs.lemmas.Bool.{and_parts, leb-true}
use Rattle.columns.specs.Number.{text}
use Rattle.columns.specs.Row.{row_text, row_fits}
use Rattle.columns.proofs.Laws.{length_field}
use Rattle.columns.proofs.Rows.{no_field, width_more, fits_more, fills, row_turn}
use Rattle.columns.proofs.row.fill_row.Goals as goal

pub loop-field-preserved : goal.loop-field-preserved
loop-field-preserved c =
    let fs = c.args.fields.now in
    let i = c.loop-field.field-index in
    let at = c.loop-field.at in
    let n = (get_or fs i no_field).number in
    let w = (get_or fs i no_field).width in
    let xs = c.loop-field.columns in
    let ys = c.write_number.new.buffer in
    let more = width_more fs i c.loop-field-test.true in
    let fit = and_parts (leb (length (text (pos n))) w) (row_fits (drop (i + 1) fs)) (sym (fits_more fs i c.loop-field-test.true) ∙ c.loop-field.invariant.1) in
    let wide : at + w - at ≡ w = omega arith in
    let part : length (take (at + w - at) (drop at xs)) ≡ w = length-take-le (at + w - at) (drop at xs) (omega (arith, length-drop at xs)) ∙ wide in
    let is = fills w n (take (at + w - at) (drop at xs)) c.write_number.result ys part fit.0 c.write_number.ensures in
    let len : length ys ≡ w = ap length is ∙ length_field w (pos n) (leb-true (length (text (pos n))) w fit.0) in
    let long : length (put_mid at (at + w - at) xs ys) ≡ length xs = search (rules, places) in
    (omega arith, fit.1, row_turn fs i c.loop-field-test.true at (at + w - at) xs ys (row_text fs) (omega arith) len is c.loop-field.invariant.2)
