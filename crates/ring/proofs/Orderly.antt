-- What holds of every table that calls led to, whatever the cells hold: counts and counters in range, and tickets under way that differ.
use Rattle.std.proofs.Common.{◌≡◌, ◌<◌, ◌≤◌, true, leb, length, Some}
use Rattle.std.proofs.lemmas.Bool.{leb-true, and_parts}
use Rattle.tickets.specs.declared.WorkerNo.{WorkerNo}
use Rattle.ring.specs.declared.table.Worker.{Worker}
use Rattle.ring.specs.declared.table.Side.{Side}
use Rattle.ring.specs.declared.table.Side.TheVariants.{Neither, Enqueuing, Dequeuing}
use Rattle.ring.specs.declared.table.EngineRow.TheVariants.{E1, E2, E9, E10, D1, D9}
use Rattle.ring.specs.declared.table.Phase.{Phase}
use Rattle.ring.specs.declared.table.Phase.TheVariants.{Idle, Engine, Kind}
use Rattle.ring.specs.Table.{Table, InRange, counter_limit, worker}
use Rattle.ring.specs.Phases.{kind_side, side}
use Rattle.ring.specs.Calls.{is_worker}

-- the side on which a worker in this phase has drawn its ticket
abbrev pub drawn : Phase → Side
drawn Idle = Neither
drawn (Engine E1) = Neither
drawn (Engine E2) = Enqueuing
drawn (Engine E9) = Enqueuing
drawn (Engine E10) = Enqueuing
drawn (Engine D1) = Neither
drawn (Engine D9) = Dequeuing
drawn (Kind k) = kind_side k

module _ {I : Type 0} where
  -- two workers that have drawn on one side have two tickets
  abbrev pub Apart : Worker I → Worker I → Type 0
  Apart v w = drawn v.phase ≡ drawn w.phase → (drawn v.phase ≡ Neither → ⊥) → v.ticket.0 ≡ w.ticket.0 → ⊥

  -- what holds of every table that calls led to, whatever the cells hold
  pub record Orderly (t : Table I) : Type 0 where
    pub in_range : InRange t.counters.cells t.counters.workers
    pub ring : length t.cells ≡ t.counters.cells
    pub crew : length t.workers ≡ t.counters.workers
    pub head_from : t.counters.cells ≤ t.counters.head
    pub head_to : t.counters.head ≤ counter_limit
    pub tail_from : t.counters.cells ≤ t.counters.tail
    pub tail_to : t.counters.tail ≤ counter_limit
    pub carries : (n : WorkerNo) → is_worker t n ≡ true → side (worker t n).phase ≡ Enqueuing → (i : I) × ((worker t n).item ≡ Some i)
    pub enqueues : (n : WorkerNo) → is_worker t n ≡ true → drawn (worker t n).phase ≡ Enqueuing
        → (t.counters.cells ≤ (worker t n).ticket.0) × ((worker t n).ticket.0 < t.counters.tail)
    pub dequeues : (n : WorkerNo) → is_worker t n ≡ true → drawn (worker t n).phase ≡ Dequeuing
        → (t.counters.cells ≤ (worker t n).ticket.0) × ((worker t n).ticket.0 < t.counters.head)
    pub apart : (n m : WorkerNo) → is_worker t n ≡ true → is_worker t m ≡ true → (n.0 ≡ m.0 → ⊥) → Apart (worker t n) (worker t m)

  pub worker_range : (t : Table I) (n : WorkerNo) → is_worker t n ≡ true → (1 ≤ n.0) × (n.0 ≤ t.counters.workers)
  worker_range t n b =
      let p = and_parts (leb 1 n.0) (leb n.0 t.counters.workers) b in
      (leb-true 1 n.0 p.0, leb-true n.0 t.counters.workers p.1)
