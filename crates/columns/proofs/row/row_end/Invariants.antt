use Rattle.std.proofs.Common.{◌≡◌, ◌+◌, ◌≤◌, drop}
use Rattle.columns.specs.Row.{row_width}
use Rattle.columns.proofs.row.row_end.Given as goal

abbrev pub invariant-loop-field : goal.invariant-loop-field
invariant-loop-field l = (l.left ≤ l.room) × (l.left + row_width l.fields ≡ l.room + row_width (drop l.field-index l.fields))
