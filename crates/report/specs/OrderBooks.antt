-- The books of the calls that the orders make: they lead from a new table to the one that is left, and their books close.
use Rattle.std.specs.Prelude.{◌≡◌, ℕ, List, length, Option, Result}
use Rattle.columns.specs.declared.fault.ColumnFault.{ColumnFault}
use Rattle.ring.specs.declared.call.Call.{Call}
use Rattle.ring.specs.Ledger.{run}
use Rattle.ring.specs.Books.{Sound, EmptyAttended}
use Rattle.ring.specs.Turns.{KindStep}
use Rattle.play.specs.Orders.{PlainOrder}
use Rattle.report.specs.History.{calls_of}
use Rattle.report.specs.Running.{Running, all_ordered}
use Rattle.report.specs.Whole.{starting}

-- these calls, the newest first, lead from a new table to the table that a player has, and are as many as it counted
pub record LedBy {I : Type 0} (step : KindStep I) (r w : ℕ) (s : Running I) (calls : List (Call I)) : Type 0 where
  pub count : length calls ≡ s.calls
  pub table : (run step r w calls).table ≡ s.table

-- the calls that the orders make lead to the table that is reported, are as many as were counted, and the books of that run close
pub record OrderBooks {I : Type 0} (text : I → Option (List ℕ)) (reading : List ℕ → Result I ColumnFault) (step : KindStep I) (r w : ℕ) (os : List PlainOrder) : Type 0 where
  pub led : LedBy step r w (all_ordered text reading step os (starting r w)) (calls_of reading step r w os)
  pub sound : Sound (run step r w (calls_of reading step r w os))
  pub attended : EmptyAttended step r w (calls_of reading step r w os)
