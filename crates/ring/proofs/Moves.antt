-- An assignment or a row of the engine, by what it finds.
use Rattle.std.proofs.Common.{◌≡◌, ◌+◌, ◌<◌, ◌≤◌, true, false, Some, None}
use Rattle.tickets.specs.declared.WorkerNo.{WorkerNo}
use Rattle.ring.specs.declared.table.Worker.{Worker}
use Rattle.ring.specs.declared.table.EngineRow.TheVariants.{E1, E2, E9, E10, D1, D9}
use Rattle.ring.specs.declared.table.KindRow.TheVariants.{E3, D2}
use Rattle.ring.specs.declared.table.Phase.{Phase}
use Rattle.ring.specs.declared.table.Phase.TheVariants.{Idle, Engine, Kind}
use Rattle.ring.specs.declared.answers.Answer.{Answer}
use Rattle.ring.specs.declared.answers.Answer.TheVariants.{Assigned, Working, Empty, Full, Closed}
use Rattle.ring.specs.declared.call.Call.{Call}
use Rattle.ring.specs.declared.call.Call.TheVariants.{AssignEnqueue, AssignDequeue, Step}
use Rattle.ring.specs.Table.{Counters, Table, counter_limit, ticket, worker}
use Rattle.ring.specs.Fields.{with_head, with_tail, shut, with_phase, with_ticket, finished}
use Rattle.ring.specs.Calls.{Outcome, moved, is_worker, starting}

-- an assignment or a row of the engine, by what it finds
pub data Move (I : Type 0) : Type 0 where
  gets_enqueue : I → Move I
  gets_dequeue : Move I
  draws_tail : Move I
  finds_open : Move I
  finds_closed : I → Move I
  finds_room : Move I
  finds_full : Move I
  shuts : I → Move I
  draws_head : Move I
  finds_more : Move I
  finds_empty : Move I

module _ {I : Type 0} where
  -- the phase that the worker was in
  abbrev pub move_from : Move I → Phase
  move_from (gets_enqueue i) = Idle
  move_from gets_dequeue = Idle
  move_from draws_tail = Engine E1
  move_from finds_open = Engine E2
  move_from (finds_closed i) = Engine E2
  move_from finds_room = Engine E9
  move_from finds_full = Engine E9
  move_from (shuts i) = Engine E10
  move_from draws_head = Engine D1
  move_from finds_more = Engine D9
  move_from finds_empty = Engine D9

  -- what it found
  abbrev pub Found : Move I → Counters → Worker I → Type 0
  Found (gets_enqueue i) c w = Unit {0}
  Found gets_dequeue c w = Unit {0}
  Found draws_tail c w = c.tail ≡ counter_limit → ⊥
  Found finds_open c w = c.closed ≡ false
  Found (finds_closed i) c w = (c.closed ≡ true) × (w.item ≡ Some i)
  Found finds_room c w = w.ticket.0 < c.head + c.cells
  Found finds_full c w = c.head + c.cells ≤ w.ticket.0
  Found (shuts i) c w = w.item ≡ Some i
  Found draws_head c w = c.head ≡ counter_limit → ⊥
  Found finds_more c w = w.ticket.0 + 1 < c.tail
  Found finds_empty c w = c.tail ≤ w.ticket.0 + 1

  -- the counters after it
  abbrev pub move_counters : Move I → Counters → Counters
  move_counters (gets_enqueue i) c = c
  move_counters gets_dequeue c = c
  move_counters draws_tail c = with_tail c (c.tail + 1)
  move_counters finds_open c = c
  move_counters (finds_closed i) c = c
  move_counters finds_room c = c
  move_counters finds_full c = c
  move_counters (shuts i) c = shut c
  move_counters draws_head c = with_head c (c.head + 1)
  move_counters finds_more c = c
  move_counters finds_empty c = c

  -- the worker's record after it
  abbrev pub move_worker : Move I → Counters → Worker I → Worker I
  move_worker (gets_enqueue i) c w = starting (Engine E1) (Some i)
  move_worker gets_dequeue c w = starting (Engine D1) None
  move_worker draws_tail c w = with_phase (with_ticket w (ticket c.tail)) (Engine E2)
  move_worker finds_open c w = with_phase w (Kind E3)
  move_worker (finds_closed i) c w = finished w
  move_worker finds_room c w = with_phase w (Engine E1)
  move_worker finds_full c w = with_phase w (Engine E10)
  move_worker (shuts i) c w = finished w
  move_worker draws_head c w = with_phase (with_ticket w (ticket c.head)) (Kind D2)
  move_worker finds_more c w = with_phase w (Engine D1)
  move_worker finds_empty c w = finished w

  abbrev pub move_answer : Move I → Worker I → Answer I
  move_answer (gets_enqueue i) w = Assigned
  move_answer gets_dequeue w = Assigned
  move_answer draws_tail w = Working
  move_answer finds_open w = Working
  move_answer (finds_closed i) w = Closed w.ticket i
  move_answer finds_room w = Working
  move_answer finds_full w = Working
  move_answer (shuts i) w = Full w.ticket i
  move_answer draws_head w = Working
  move_answer finds_more w = Working
  move_answer finds_empty w = Empty w.ticket

  -- the call that makes it
  abbrev pub move_call : Move I → WorkerNo → Call I
  move_call (gets_enqueue i) n = AssignEnqueue n i
  move_call gets_dequeue n = AssignDequeue n
  move_call draws_tail n = Step n
  move_call finds_open n = Step n
  move_call (finds_closed i) n = Step n
  move_call finds_room n = Step n
  move_call finds_full n = Step n
  move_call (shuts i) n = Step n
  move_call draws_head n = Step n
  move_call finds_more n = Step n
  move_call finds_empty n = Step n

  abbrev pub move_outcome : Table I → WorkerNo → Move I → Outcome I
  move_outcome t n m = moved t (move_counters m t.counters) n (move_worker m t.counters (worker t n)) (move_answer m (worker t n))

  abbrev pub move_table : Table I → WorkerNo → Move I → Table I
  move_table t n m = (move_outcome t n m).table

  -- a worker of the table makes the move
  pub record Moved (t : Table I) (n : WorkerNo) (m : Move I) : Type 0 where
    pub there : is_worker t n ≡ true
    pub standing : (worker t n).phase ≡ move_from m
    pub found : Found m t.counters (worker t n)
