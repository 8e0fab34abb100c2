-- Room, then the item, then the numbers.
use Rattle.std.proofs.Common.{◌≡◌, ltb, ◌++◌, length, take, drop, set, Ok, Err, sym, ap, ◌∙◌, arith}
use borrow.Rule.Slice.PartMut.{put_mid}
use Rattle.std.specs.Option.{ok_or}
use Rattle.std.proofs.lemmas.List.{length-take-le, take-append-drop}
use Rattle.std.proofs.lemmas.Result.{err_from_is_err_and}
use Rattle.std.proofs.lemmas.Bool.{cond-true, cond-false, le-ltb}
use Rattle.columns.specs.declared.write_refusal.WriteRefusal.TheVariants.{Narrow, Range}
use Rattle.columns.specs.Row.{row_fits, row_text, row_written}
use Rattle.columns.proofs.Rows.{row_refused, row_done, length_row}
use Rattle.lines.specs.CallLine.{reply_item, call_fields, call_line, line_of, line_put, shown}
use Rattle.lines.proofs.CallLines.{chosen, shown_wide, three_parts}
use Rattle.lines.proofs.call_line.write_call.Goals as goal

pub returns-in_err-write_row : goal.returns-in_err-write_row
returns-in_err-write_row g c =
    let buffer = c.args.buffer.now in
    let text = g.I.ItemKind.text in
    let r = c.args.reply in
    let fs = call_fields c.args.call c.args.worker r in
    let item = c.in_ok-columns.columns in
    let room : length (take 29 buffer) ≡ 29 = length-take-le 29 buffer (omega arith) in
    let columns = chosen (shown text (reply_item r)) Range item (ap (λ x. ok_or (shown text x) Range) (sym c.item_of.ensures) ∙ sym c.item_columns.ensures ∙ c.in_ok-columns.was) in
    let wide = cond-false (ltb (length buffer) 45) (Err Narrow, buffer) (line_put (call_line text c.args.call c.args.worker r) buffer) (le-ltb (length buffer) 45 (omega arith)) in
    let p = err_from_is_err_and c.from_residual-in_err-write_row.result c.from_residual-in_err-write_row.ensures.1 in
    let was = c.in_err-write_row.was in
    let said = ap (λ x. (x, c.write_row.new.buffer)) (sym was) ∙ c.write_row.ensures ∙ ap (λ x. row_written x (take 29 buffer)) c.call_fields-fields.ensures in
    let refused = row_refused fs (take 29 buffer) c.write_row.new.buffer c.in_err-write_row.field-0.0 room said in
    ap (λ x. (x, c.write_row.new.buffer ++ drop 29 buffer)) (p.1 ∙ ap Err (p.2 ∙ refused.0))
    ∙ ap (λ x. (Err Range, x)) (ap (λ x. x ++ drop 29 buffer) refused.1 ∙ take-append-drop 29 buffer)
    ∙ ap (λ x. line_put x buffer) (sym (ap (line_of fs) columns ∙ cond-false (row_fits fs) _ _ refused.2))
    ∙ sym wide

pub returns : goal.returns
returns g c =
    let buffer = c.args.buffer.now in
    let text = g.I.ItemKind.text in
    let r = c.args.reply in
    let fs = call_fields c.args.call c.args.worker r in
    let item = c.in_ok-columns.columns in
    let room : length (take 29 buffer) ≡ 29 = length-take-le 29 buffer (omega arith) in
    let columns = chosen (shown text (reply_item r)) Range item (ap (λ x. ok_or (shown text x) Range) (sym c.item_of.ensures) ∙ sym c.item_columns.ensures ∙ c.in_ok-columns.was) in
    let wide = cond-false (ltb (length buffer) 45) (Err Narrow, buffer) (line_put (call_line text c.args.call c.args.worker r) buffer) (le-ltb (length buffer) 45 (omega arith)) in
    let was = c.in_ok-write_row.was in
    let said = ap (λ x. (x, c.write_row.new.buffer)) (sym was) ∙ c.write_row.ensures ∙ ap (λ x. row_written x (take 29 buffer)) c.call_fields-fields.ensures in
    let done = row_done fs (take 29 buffer) c.write_row.new.buffer c.in_ok-write_row.field-0 room said in
    let copied = c.copy_from_slice.ensures.after in
    let row_wide : length (row_text fs) ≡ 29 = length_row fs done.1 in
    let item_wide : length item ≡ 15 = shown_wide text g.met.I.ItemKind.wide (reply_item r) item columns in
    ap (λ x. (Ok tt, set (put_mid 29 15 (x ++ drop 29 buffer) c.copy_from_slice.new.self) 44 10)) done.0
    ∙ ap (λ x. (Ok tt, set (put_mid 29 15 (row_text fs ++ drop 29 buffer) x) 44 10)) copied
    ∙ ap (λ x. (Ok tt, x)) (three_parts (row_text fs) item buffer row_wide item_wide (omega arith))
    ∙ ap (λ x. line_put x buffer) (sym (ap (line_of fs) columns ∙ cond-true (row_fits fs) _ _ done.1))
    ∙ sym wide
