-- A list of calls, made one after another.
use Rattle.std.proofs.Common.{◌≡◌, ℕ, List, reverse, take, drop, Result}
use Rattle.ring.specs.declared.answers.Answer.{Answer}
use Rattle.ring.specs.declared.answers.Refusal.{Refusal}
use Rattle.ring.specs.declared.call.Call.{Call}
use Rattle.ring.specs.Table.{Table}
use Rattle.ring.specs.Turns.{KindStep}
use Rattle.ring.specs.Calls.{after}
use Rattle.sequence.specs.Sequence.{replies}

module _ {I : Type 0} where
  -- the first i calls are made: the table t, and the answers so far
  pub record Sofar (step : KindStep I) (start : Table I) (calls : List (Call I)) (before : List (Result (Answer I) Refusal)) (i : ℕ) (t : Table I) (answers : List (Result (Answer I) Refusal)) : Type 0 where
    pub table : t ≡ after step start (reverse (take i calls))
    pub front : take i answers ≡ reverse (replies step start (reverse (take i calls)))
    pub back : drop i answers ≡ drop i before
