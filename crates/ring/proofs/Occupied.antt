-- Counts over cells.
use Rattle.std.proofs.Common.{◌≡◌, ℕ, zero, suc, ◌+◌, ◌<◌, List, [], ◌∷◌, length, get_or, set, replicate, refl, arith}
use Rattle.ring.specs.declared.table.Cell.{Cell}
use Rattle.ring.specs.Table.{one_if, fresh_cell, occupied, occupied_cells}

module _ {I : Type 0} where
  -- one cell is replaced
  pub occupied_set : (cs : List (Cell I)) (j : ℕ) (c : Cell I) → j < length cs
      → occupied_cells (set cs j c) + one_if (occupied (get_or cs j fresh_cell).value) ≡ occupied_cells cs + one_if (occupied c.value)
  occupied_set [] j c h = absurd (omega arith)
  occupied_set (x ∷ cs) zero c h = omega arith
  occupied_set (x ∷ cs) (suc j) c h = omega (arith, occupied_set cs j c (omega arith))

pub occupied_none : (I : Type 0) (r : ℕ) → occupied_cells (replicate r (fresh_cell {I = I})) ≡ 0
occupied_none I zero = refl
occupied_none I (suc r) = omega (arith, occupied_none I r)
