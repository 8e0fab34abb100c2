-- The line that tells a fault: `?` (63), layer, number, line and column.
use Rattle.std.specs.Prelude.{ℕ, List, [], ◌∷◌}
use Rattle.columns.specs.declared.row.Field.{Field}
use Rattle.play.specs.declared.fault.Place.{Place}

-- `?`
abbrev pub fault_mark : ℕ
fault_mark = 63

-- the layer in 2 columns, the number in 3, the line in 5, the column in 3
abbrev pub place_fields : Place → List Field
place_fields p =
    record { width = 2; number = p.layer } ∷ record { width = 3; number = p.number } ∷ record { width = 5; number = p.line } ∷ record { width = 3; number = p.column } ∷ []
