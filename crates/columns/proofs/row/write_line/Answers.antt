use Rattle.std.proofs.Common.{◌≡◌, ◌+◌, ◌-◌, ◌≤◌, true, ltb, length, set, Ok, sym, ap, ◌∙◌, arith}
use borrow.Rule.Slice.PartMut.{put_mid}
use Rattle.std.proofs.lemmas.Bool.{cond-true, cond-false, le-ltb}
use Rattle.columns.specs.Row.{row_fits, row_text, row_width}
use Rattle.columns.proofs.Rows.{framed, length_row}
use Rattle.columns.proofs.row.write_line.Goals as goal

pub returns : goal.returns
returns c =
    let buffer = c.args.buffer.now in
    let fs = c.args.fields.now in
    let mark = c.args.mark in
    let width = c.in-Some.width in
    let said = c.in-Some.ensures in
    let fits : row_fits fs ≡ true = sym c.all_fit.ensures ∙ c.if-not-all_fit.false in
    let len : length (row_text fs) ≡ width = length_row fs fits ∙ sym said.0 in
    let room : row_width fs + 2 ≤ length buffer = omega (arith, said.0, said.1, c.if-buffer-width-lt2.false) in
    let same : width + 1 - 1 ≡ width = omega arith in
    ap (λ ys. (Ok tt, set (put_mid 1 (width + 1 - 1) (set buffer 0 mark) ys) (width + 1) 10)) c.fill_row.ensures
    ∙ ap (λ x. (Ok tt, x)) (framed mark width (width + 1 - 1) (row_text fs) buffer len same (omega (arith, said.0)))
    ∙ sym (cond-false (ltb (length buffer) (row_width fs + 2)) _ _ (le-ltb (length buffer) (row_width fs + 2) room) ∙ cond-true (row_fits fs) _ _ fits)
