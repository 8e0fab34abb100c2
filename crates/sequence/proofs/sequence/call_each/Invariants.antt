use Rattle.calls.specs.Lent.{table_of, SameMemory}
use Rattle.sequence.proofs.Sequences.{Sofar}
use Rattle.sequence.proofs.sequence.call_each.Given as goal

abbrev pub invariant-loop-i : goal.invariant-loop-i
invariant-loop-i g l =
    SameMemory l.initial.table l.table
    × Sofar g.K.RingKind.step (table_of l.initial.table) l.calls l.initial.answers l.i (table_of l.table) l.answers
