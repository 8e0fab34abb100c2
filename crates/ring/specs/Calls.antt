-- The calls on a table, with their tests in order: the counts (13), the worker's number (14), busy or idle (15, 16), the rest of 13, and spent (17, in the rows).
use Rattle.std.specs.Prelude.{◌-◌, Bool, true, false, cond, ◌&&◌, List, [], ◌∷◌, length, Some, None, Ok, Err, Option, Result, ◌==◌, nat_le, nat_lt, slice_set}
use Rattle.tickets.specs.declared.Ticket.{Ticket}
use Rattle.tickets.specs.declared.WorkerNo.{WorkerNo}
use Rattle.tickets.specs.Places.{slot}
use Rattle.ring.specs.declared.table.Worker.{Worker}
use Rattle.ring.specs.declared.table.Value.TheVariants.{Empty}
use Rattle.ring.specs.declared.table.Side.{Side}
use Rattle.ring.specs.declared.table.Side.TheVariants.{Neither, Enqueuing, Dequeuing}
use Rattle.ring.specs.declared.table.EngineRow.TheVariants.{E1, D1}
use Rattle.ring.specs.declared.table.Phase.{Phase}
use Rattle.ring.specs.declared.table.Phase.TheVariants.{Idle, Engine, Kind}
use Rattle.ring.specs.declared.answers.Answer.{Answer}
use Rattle.ring.specs.declared.answers.Answer.TheVariants.{Assigned}
use Rattle.ring.specs.declared.answers.Refusal.{Refusal}
use Rattle.ring.specs.declared.answers.Refusal.TheVariants.{Misfit, Nobody, Busy}
use Rattle.ring.specs.declared.call.Call.{Call}
use Rattle.ring.specs.declared.call.Call.TheVariants.{AssignEnqueue, AssignDequeue, Step}
use Rattle.ring.specs.Table.{Counters, Table, counter_limit, ticket, idle_pair, worker, cell}
use Rattle.ring.specs.Phases.{engine_side, kind_side, is_idle}
use Rattle.ring.specs.Turns.{Turn, KindStep}
use Rattle.ring.specs.Rows.{EngineTurn, engine_row}

-- what a call answers, and the table after it
pub record Outcome (I : Type 0) : Type 0 where
  pub table : Table I
  pub answer : Result (Answer I) Refusal

module _ {I : Type 0} where
  -- nothing changes
  abbrev pub refused : Table I → Refusal → Outcome I
  refused t r = record { table = t; answer = Err r }

  -- the counters and the worker's record change, the cells do not
  abbrev pub moved : Table I → Counters → WorkerNo → Worker I → Answer I → Outcome I
  moved t c n w a = record { table = record { counters = c; cells = t.cells; workers = slice_set t.workers (n.0 - 1) w }; answer = Ok a }

  -- a turn of the engine by the worker n, put into the table
  abbrev pub engine_turned : Table I → WorkerNo → Result (EngineTurn I) Refusal → Outcome I
  engine_turned t n (Err r) = refused t r
  engine_turned t n (Ok out) = moved t out.counters n out.worker out.answer

  -- a turn of the ring kind by the worker n with the ticket k, put into the table
  abbrev pub turned : Table I → WorkerNo → Ticket → Result (Turn I) Refusal → Outcome I
  turned t n k (Err r) = refused t r
  turned t n k (Ok out) =
      record {
        table =
            record { counters = t.counters; cells = slice_set t.cells (slot t.counters.cells k) out.cell; workers = slice_set t.workers (n.0 - 1) out.worker };
        answer = Ok out.answer;
      }

  -- there are as many cells and as many records as the control says
  abbrev pub counts_agree : Table I → Bool
  counts_agree t = length t.cells == t.counters.cells && length t.workers == t.counters.workers

  -- the number is one from 1 to W
  abbrev pub is_worker : Table I → WorkerNo → Bool
  is_worker t n = nat_le 1 n.0 && nat_le n.0 t.counters.workers

  -- the tests that every call on a table makes first
  abbrev pub for_worker : Table I → WorkerNo → Outcome I → Outcome I
  for_worker t n done = cond (counts_agree t) (cond (is_worker t n) done (refused t Nobody)) (refused t Misfit)

  -- the record that an assignment writes: all but phase and item as in an idle one
  abbrev pub starting : Phase → Option I → Worker I
  starting p i = record { phase = p; ticket = ticket 0; item = i; pair = idle_pair; value = Empty }

  -- an assignment: who is not idle is busy (15)
  abbrev pub assigned : Table I → WorkerNo → Phase → Option I → Outcome I
  assigned t n p i = for_worker t n (cond (is_idle (worker t n).phase) (moved t t.counters n (starting p i) Assigned) (refused t Busy))

  -- there is an item
  abbrev pub carries : Option I → Bool
  carries None = false
  carries (Some i) = true

  -- the ticket is within the limit, and an enqueue has its item
  abbrev pub fit : Worker I → Side → Bool
  fit w Neither = true
  fit w Enqueuing = nat_lt w.ticket.0 counter_limit && carries w.item
  fit w Dequeuing = nat_lt w.ticket.0 counter_limit

  -- the turn of a worker that is fit for it; else 13
  abbrev pub fitting : {A : Type 0} → Worker I → Side → Result A Refusal → Result A Refusal
  fitting w s turn = cond (fit w s) turn (Err Misfit)

  -- the row of the worker's phase: the engine's, or the ring kind's
  abbrev pub row : KindStep I → Table I → WorkerNo → Worker I → Phase → Outcome I
  row step t n w Idle = refused t Refusal.Idle
  row step t n w (Engine e) = engine_turned t n (fitting w (engine_side e) (engine_row t.counters w e))
  row step t n w (Kind k) = turned t n w.ticket (fitting w (kind_side k) (step t.counters.cells t.counters.head n w (cell t w.ticket)))

  -- a step: the tests that every call makes, then the row of the worker's phase
  abbrev pub stepped : KindStep I → Table I → WorkerNo → Outcome I
  stepped step t n = for_worker t n (row step t n (worker t n) (worker t n).phase)

  -- what a call on a table comes to, with a ring kind
  abbrev pub called : KindStep I → Table I → Call I → Outcome I
  called step t (AssignEnqueue n i) = assigned t n (Engine E1) (Some i)
  called step t (AssignDequeue n) = assigned t n (Engine D1) None
  called step t (Step n) = stepped step t n

  -- the table after a list of calls, the newest first
  abbrev pub after : KindStep I → Table I → List (Call I) → Table I
  after step t [] = t
  after step t (c ∷ cs) = (called step (after step t cs) c).table
