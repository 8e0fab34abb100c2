-- Nothing is at fault before `at`, and no LF stands between it and the column.
use Rattle.std.proofs.Common.{◌≡◌, ℕ, ◌+◌, ◌-◌, ◌<◌, ◌≤◌, length, get_or, drop}
use Rattle.play.specs.Lines.{lines_of}
use Rattle.play.specs.Play.{order_lines, fault_part}
use Rattle.play.proofs.body.first_fault.Given as goal

abbrev pub invariant-reading : goal.invariant-reading
invariant-reading l =
    (l.at ≤ length l.body) × (l.line ≤ l.at + 2) × (fault_part (order_lines l.items l.line (lines_of (drop l.at l.body))) ≡ fault_part (order_lines l.items 2 (lines_of l.body)))

abbrev pub decreases-reading : goal.decreases-reading
decreases-reading l = length l.body - l.at

abbrev pub invariant-loop-column : goal.invariant-loop-column
invariant-loop-column l = (l.column ≤ length l.body) × ((k : ℕ) → l.at ≤ k → k < l.column → get_or l.body k 0 ≡ 10 → ⊥)
