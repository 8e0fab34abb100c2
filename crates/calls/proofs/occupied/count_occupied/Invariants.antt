use Rattle.std.proofs.Common.{◌≡◌, ◌+◌, ◌≤◌, drop}
use Rattle.ring.specs.Table.{occupied_cells}
use Rattle.calls.proofs.occupied.count_occupied.Given as goal

abbrev pub invariant-loop-cell : goal.invariant-loop-cell
invariant-loop-cell g l = (l.count ≤ l.cell-index) × (l.count + occupied_cells (drop l.cell-index l.cells) ≡ occupied_cells l.cells)
