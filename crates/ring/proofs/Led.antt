-- The table after calls is the same with and without its ledger.
use Rattle.std.proofs.Common.{◌≡◌, ℕ, List, [], ◌∷◌, refl, ap}
use Rattle.ring.specs.declared.call.Call.{Call}
use Rattle.ring.specs.Table.{laid_out}
use Rattle.ring.specs.Turns.{KindStep}
use Rattle.ring.specs.Calls.{called, after}
use Rattle.ring.specs.Ledger.{run}

module _ {I : Type 0} (step : KindStep I) (r w : ℕ) where
  pub run_led : (calls : List (Call I)) → after step (laid_out r w) calls ≡ (run step r w calls).table
  run_led [] = refl
  run_led (c ∷ cs) = ap (λ t. (called step t c).table) (run_led cs)
