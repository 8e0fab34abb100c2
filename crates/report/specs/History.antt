-- The calls that orders make on a new table, the newest first.
use Rattle.std.specs.Prelude.{ℕ, zero, suc, cond, List, [], ◌∷◌, Ok, Err, Result}
use Rattle.tickets.specs.declared.WorkerNo.{WorkerNo}
use Rattle.columns.specs.declared.fault.ColumnFault.{ColumnFault}
use Rattle.ring.specs.declared.call.Call.{Call}
use Rattle.ring.specs.declared.call.Call.TheVariants.{AssignEnqueue, AssignDequeue, Step}
use Rattle.ring.specs.Calls.{called}
use Rattle.ring.specs.Ledger.{run}
use Rattle.ring.specs.Turns.{KindStep}
use Rattle.play.specs.Orders.{PlainOrder, enqueue, dequeue, steps}
use Rattle.report.specs.Running.{stops}

-- on a ring of r cells with w workers, behind the calls made before
module _ {I : Type 0} (reading : List ℕ → Result I ColumnFault) (step : KindStep I) (r w : ℕ) where
  -- at most so many steps of a worker, up to the first that is refused or ends the operation
  abbrev pub and_steps : WorkerNo → ℕ → List (Call I) → List (Call I)
  and_steps n zero before = before
  and_steps n (suc k) before = cond (stops (called step (run step r w before).table (Step n)).answer) (Step n ∷ before) (and_steps n k (Step n ∷ before))

  -- the assignment of the item that was read
  abbrev pub and_enqueue : WorkerNo → Result I ColumnFault → List (Call I) → List (Call I)
  and_enqueue n (Ok i) before = AssignEnqueue n i ∷ before
  and_enqueue n (Err f) before = before

  -- the calls of one order more
  abbrev pub and_order : PlainOrder → List (Call I) → List (Call I)
  and_order (enqueue n cs) before = and_enqueue n (reading cs) before
  and_order (dequeue n) before = AssignDequeue n ∷ before
  and_order (steps n k) before = and_steps n k before

  -- the calls of orders, one after the other
  abbrev pub and_orders : List PlainOrder → List (Call I) → List (Call I)
  and_orders [] before = before
  and_orders (o ∷ os) before = and_orders os (and_order o before)

  -- the calls that these orders make
  abbrev pub calls_of : List PlainOrder → List (Call I)
  calls_of os = and_orders os []
