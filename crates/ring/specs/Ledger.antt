-- The ledger of a run: what was placed, taken and passed over, and who is at work on which ticket. It is not stored.
use Rattle.std.specs.Prelude.{ℕ, ◌+◌, Bool, true, false, cond, List, [], ◌∷◌, Some, None, Ok, Err, Option, Result, ◌==◌}
use Rattle.tickets.specs.declared.Ticket.{Ticket}
use Rattle.tickets.specs.declared.WorkerNo.{WorkerNo}
use Rattle.ring.specs.declared.answers.Answer.{Answer}
use Rattle.ring.specs.declared.answers.Answer.TheVariants.{Assigned, Working, Placed, Taken, PassedOver, Empty, Full, Closed}
use Rattle.ring.specs.declared.answers.Refusal.{Refusal}
use Rattle.ring.specs.declared.call.Call.{Call}
use Rattle.ring.specs.declared.call.Call.TheVariants.{AssignEnqueue, AssignDequeue, Step}
use Rattle.ring.specs.Table.{Table, ticket, laid_out}
use Rattle.ring.specs.Turns.{KindStep}
use Rattle.ring.specs.Calls.{called}

-- an entry of the ledger: placed or taken, with ticket and item, or passed over, with the ticket
pub data Event (I : Type 0) : Type 0 where
  placed : Ticket → I → Event I
  taken : Ticket → I → Event I
  passed_over : Ticket → Event I

-- what happened, the newest first, and the ticket that each worker's dequeue is at work on
pub record Ledger (I : Type 0) : Type 0 where
  pub events : List (Event I)
  pub at_work : WorkerNo → Option Ticket

-- a table with its ledger
pub record State (I : Type 0) : Type 0 where
  pub table : Table I
  pub ledger : Ledger I

module _ {I : Type 0} where
  -- no entries, and nobody at work
  abbrev pub blank : Ledger I
  blank = record { events = []; at_work = λ n. None }

  -- placed and taken write ticket and item, passed over writes the ticket
  abbrev pub noted : Answer I → List (Event I) → List (Event I)
  noted Assigned es = es
  noted Working es = es
  noted (Placed k i) es = placed k i ∷ es
  noted (Taken k i) es = taken k i ∷ es
  noted (PassedOver k) es = passed_over k ∷ es
  noted (Empty k) es = es
  noted (Full k i) es = es
  noted (Closed k i) es = es

  -- taken or passed over: the worker's dequeue is no more at work
  abbrev pub ends_work : Answer I → Bool
  ends_work Assigned = false
  ends_work Working = false
  ends_work (Placed k i) = false
  ends_work (Taken k i) = true
  ends_work (PassedOver k) = true
  ends_work (Empty k) = false
  ends_work (Full k i) = false
  ends_work (Closed k i) = false

  -- the worker's work after a step that found Head at h and left it at h': raised by one, it is at work on h
  abbrev pub work : Answer I → ℕ → ℕ → Option Ticket → Option Ticket
  work a h h' old = cond (ends_work a) None (cond (h' == h + 1) (Some (ticket h)) old)

  -- only a step changes who is at work, and only for its worker
  abbrev pub worked : Call I → Answer I → ℕ → ℕ → (WorkerNo → Option Ticket) → WorkerNo → Option Ticket
  worked (AssignEnqueue n i) a h h' old m = old m
  worked (AssignDequeue n) a h h' old m = old m
  worked (Step n) a h h' old m = cond (m.0 == n.0) (work a h h' (old m)) (old m)

  -- the ledger is fed a call with its answer, and Head before and after. A refusal writes nothing
  abbrev pub fed : Ledger I → Call I → Result (Answer I) Refusal → ℕ → ℕ → Ledger I
  fed l call (Err r) h h' = l
  fed l call (Ok a) h h' = record { events = noted a l.events; at_work = worked call a h h' l.at_work }

  -- a table with its ledger after one more call
  abbrev pub next : KindStep I → State I → Call I → State I
  next step s call =
      let out = called step s.table call in
      record { table = out.table; ledger = fed s.ledger call out.answer s.table.counters.head out.table.counters.head }

  -- a new table and its ledger after a list of calls, the newest first
  abbrev pub run : KindStep I → ℕ → ℕ → List (Call I) → State I
  run step r w [] = record { table = laid_out r w; ledger = blank }
  run step r w (call ∷ earlier) = next step (run step r w earlier) call
