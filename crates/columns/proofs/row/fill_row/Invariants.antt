use Rattle.std.proofs.Common.{◌≡◌, ◌+◌, true, ◌++◌, length, take, drop}
use Rattle.columns.specs.Row.{row_width, row_text, row_fits}
use Rattle.columns.proofs.row.fill_row.Given as goal

abbrev pub invariant-loop-field : goal.invariant-loop-field
invariant-loop-field l =
    (l.at + row_width (drop l.field-index l.fields) ≡ length l.columns)
    × (row_fits (drop l.field-index l.fields) ≡ true)
    × (take l.at l.columns ++ row_text (drop l.field-index l.fields) ≡ row_text l.fields)
