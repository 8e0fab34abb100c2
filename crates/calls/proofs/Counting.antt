-- One more cell counted.
use Rattle.std.proofs.Common.{◌≡◌, ℕ, ◌+◌, ◌<◌, List, length, get_or, drop, sym, ap, ◌∙◌}
use Rattle.std.proofs.lemmas.List.{at_drop_more}
use Rattle.ring.specs.declared.table.Cell.{Cell}
use Rattle.ring.specs.Table.{one_if, occupied, occupied_cells}

pub count_more : {I : Type 0} (cs : List (Cell I)) (i : ℕ) (c : Cell I) → i < length cs → c ≡ get_or cs i c
    → occupied_cells (drop i cs) ≡ one_if (occupied c.value) + occupied_cells (drop (i + 1) cs)
count_more cs i c h e = at_drop_more occupied_cells cs i c h ∙ ap (λ x. one_if (occupied x.value) + occupied_cells (drop (i + 1) cs)) (sym e)
