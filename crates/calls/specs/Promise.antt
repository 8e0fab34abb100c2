-- What a call promises: the table by the parts that it is lent, and the books of the run that it continues.
use Rattle.std.specs.Prelude.{◌≡◌, ℕ, List, ◌∷◌, Result}
use Rattle.ring.specs.declared.table.Cell.{Cell}
use Rattle.ring.specs.declared.table.Worker.{Worker}
use Rattle.ring.specs.declared.control.Control.{Control}
use Rattle.ring.specs.declared.answers.Answer.{Answer}
use Rattle.ring.specs.declared.answers.Refusal.{Refusal}
use Rattle.ring.specs.declared.call.Call.{Call}
use Rattle.ring.specs.Table.{Table, InRange}
use Rattle.ring.specs.Turns.{KindStep}
use Rattle.ring.specs.Calls.{Outcome}
use Rattle.ring.specs.Ledger.{run}
use Rattle.ring.specs.Books.{Sound, EmptyAttended}
use Rattle.engine.specs.Engine.{counters}

module _ {I : Type 0} where
  -- the table that a control, cells and records make up
  abbrev pub table : Control → List (Cell I) → List (Worker I) → Table I
  table c cs ws = record { counters = counters c; cells = cs; workers = ws }

  -- the table at the return, with the answer
  abbrev pub left : Control → List (Cell I) → List (Worker I) → Result (Answer I) Refusal → Outcome I
  left c cs ws r = record { table = table c cs ws; answer = r }

  -- whichever earlier calls led from a new table to t, they and this call lead to t', and the books of that run close
  abbrev pub Continues : KindStep I → Table I → Call I → Table I → Type 0
  Continues step t call t' =
      (r w : ℕ) → InRange r w → (earlier : List (Call I)) → (run step r w earlier).table ≡ t
      → ((run step r w (call ∷ earlier)).table ≡ t') × Sound (run step r w (call ∷ earlier)) × EmptyAttended step r w (call ∷ earlier)
