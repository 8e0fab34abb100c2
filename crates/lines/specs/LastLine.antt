-- The last line of a report: `=` (61), Head, Tail, Closed as 0 or 1, and the number of occupied cells.
use Rattle.std.specs.Prelude.{ℕ, Bool, true, false, List, [], ◌∷◌}
use Rattle.columns.specs.declared.row.Field.{Field}

-- `=`
abbrev pub last_mark : ℕ
last_mark = 61

-- Closed as a number: 1 on, 0 off
abbrev pub bit : Bool → ℕ
bit true = 1
bit false = 0

-- Head in 13 columns, Tail in 13, Closed in 2, the number of occupied cells in 5
abbrev pub last_fields : ℕ → ℕ → Bool → ℕ → List Field
last_fields head tail closed occupied =
    record { width = 13; number = head } ∷ record { width = 13; number = tail } ∷ record { width = 2; number = bit closed } ∷ record { width = 5; number = occupied } ∷ []
