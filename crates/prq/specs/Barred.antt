-- Which tickets PRQ can no longer place.
use Rattle.std.specs.Prelude.{◌≡◌, ℕ, ◌<◌, ◌≤◌, true, false, ◌⊎◌, ◌≢◌}
use Rattle.tickets.specs.declared.Ticket.{Ticket}
use Rattle.tickets.specs.declared.WorkerNo.{WorkerNo}
use Rattle.tickets.specs.Places.{round, slot}
use Rattle.ring.specs.declared.table.Pair.{Pair}
use Rattle.ring.specs.declared.table.Value.{Value}
use Rattle.ring.specs.declared.table.Cell.{Cell}
use Rattle.ring.specs.declared.table.Phase.{Phase}
use Rattle.ring.specs.declared.table.Worker.{Worker}
use Rattle.ring.specs.declared.table.Value.TheVariants.{Token}
use Rattle.ring.specs.declared.table.KindRow.TheVariants.{E6, E7, E8}
use Rattle.ring.specs.declared.table.Phase.TheVariants.{Kind}
use Rattle.ring.specs.Calls.{is_worker}
use Rattle.ring.specs.Table.{Table, worker, cell, occupied}

-- about to put its token in the cell, or to raise the cell's pair
abbrev pub AtDoor : Phase → Type 0
AtDoor p = (p ≡ Kind E6) ⊎ (p ≡ Kind E7)

module _ {I : Type 0} where
  -- every worker of the table
  abbrev pub Each : Table I → (WorkerNo → Worker I → Type 0) → Type 0
  Each t Q = (m : WorkerNo) → is_worker t m ≡ true → Q m (worker t m)

  -- v, the value of cell j, is not the token of an enqueue that only has to place its item
  abbrev pub Unlocked : Table I → ℕ → Value I → Type 0
  Unlocked t j v = Each t (λ m w. w.phase ≡ Kind E8 → slot t.counters.cells w.ticket ≡ j → v ≢ Token m)

  -- v, the value of cell j, is no item and unlocked
  abbrev pub Quiet : Table I → ℕ → Value I → Type 0
  Quiet t j v = (occupied v ≡ false) × Unlocked t j v

  -- p, the pair of the ticket's cell, is not as an enqueue of the same or an earlier ticket at the door read it
  abbrev pub Clear : Table I → Ticket → Pair → Type 0
  Clear t k p =
      Each t (λ m w. AtDoor w.phase → slot t.counters.cells w.ticket ≡ slot t.counters.cells k → w.ticket.0 ≤ k.0 → w.pair ≢ p)

  -- the ticket's cell, s, is past the ticket's round, or at it and quiet, or not safe with Head past the ticket and the door clear
  abbrev pub Bars : Table I → Ticket → Cell I → Type 0
  Bars t k s =
      ((round t.counters.cells k).0 < s.pair.epoch.0)
      ⊎ (((s.pair.epoch.0 ≡ (round t.counters.cells k).0) × Quiet t (slot t.counters.cells k) s.value)
      ⊎ ((k.0 < t.counters.head) × (s.pair.safe ≡ false) × Clear t k s.pair))

  -- the ticket is barred by its cell as it is
  abbrev pub prq_barred : Table I → Ticket → Type 0
  prq_barred t k = Bars t k (cell t k)
