-- The books of a run: its calls, one after the other, led from a new table to the one that is left, and their books close.
use Rattle.std.specs.Prelude.{◌≡◌, ℕ, List, length, Option, Result}
use Rattle.columns.specs.declared.fault.ColumnFault.{ColumnFault}
use Rattle.ring.specs.declared.call.Call.{Call}
use Rattle.ring.specs.Ledger.{run}
use Rattle.ring.specs.Books.{Sound, EmptyAttended}
use Rattle.ring.specs.Turns.{KindStep}
use Rattle.play.specs.Orders.{PlainOrder}
use Rattle.report.specs.Running.{Running, all_ordered}
use Rattle.report.specs.Whole.{starting}

-- the calls that led to what a player has, the newest first
pub record Led {I : Type 0} (step : KindStep I) (r w : ℕ) (s : Running I) : Type 0 where
  pub calls : List (Call I)
  pub count : length calls ≡ s.calls
  pub table : (run step r w calls).table ≡ s.table

-- some calls lead to the table that is reported, are as many as were counted, and the books of that run close
pub record RunBooks {I : Type 0} (text : I → Option (List ℕ)) (reading : List ℕ → Result I ColumnFault) (step : KindStep I) (r w : ℕ) (os : List PlainOrder) : Type 0 where
  pub led : Led step r w (all_ordered text reading step os (starting r w))
  pub sound : Sound (run step r w led.calls)
  pub attended : EmptyAttended step r w led.calls
