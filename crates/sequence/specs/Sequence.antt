-- A whole list of calls: laid out first, then made one after another, as far as there is room for their answers.
use Rattle.std.specs.Prelude.{◌≡◌, ℕ, min, List, [], ◌∷◌, ◌++◌, reverse, length, take, drop, Ok, Err, Result}
use Rattle.ring.specs.declared.table.Cell.{Cell}
use Rattle.ring.specs.declared.table.Worker.{Worker}
use Rattle.ring.specs.declared.control.Control.{Control}
use Rattle.ring.specs.declared.answers.Answer.{Answer}
use Rattle.ring.specs.declared.answers.Refusal.{Refusal}
use Rattle.ring.specs.declared.call.Call.{Call}
use Rattle.ring.specs.Table.{Table, InRange, laid_out}
use Rattle.ring.specs.Turns.{KindStep}
use Rattle.ring.specs.Calls.{called, after}
use Rattle.ring.specs.Ledger.{run}
use Rattle.ring.specs.Books.{Sound, EmptyAttended}
use Rattle.calls.specs.Promise.{table}
use Rattle.calls.specs.Laying.{unlaid, laying}

module _ {I : Type 0} where
  -- what calls answer, from a table on; calls and answers with the newest first
  abbrev pub replies : KindStep I → Table I → List (Call I) → List (Result (Answer I) Refusal)
  replies step t [] = []
  replies step t (c ∷ cs) = (called step (after step t cs) c).answer ∷ replies step t cs

  -- the calls that there is room for, the newest first
  abbrev pub made : List (Call I) → List (Result (Answer I) Refusal) → List (Call I)
  made calls answers = reverse (take (min (length calls) (length answers)) calls)

  -- their answers, the oldest first, and the rest as it was
  abbrev pub answers_after : KindStep I → Table I → List (Call I) → List (Result (Answer I) Refusal) → List (Result (Answer I) Refusal)
  answers_after step t calls answers = reverse (replies step t (made calls answers)) ++ drop (min (length calls) (length answers)) answers

  -- what is left after laying out and the calls. A refusal is that of laying out, and leaves all as it was
  abbrev pub Made : KindStep I → List (Cell I) → List (Worker I) → List (Call I) → List (Result (Answer I) Refusal)
      → Result Control Refusal → List (Cell I) → List (Worker I) → List (Result (Answer I) Refusal) → Type 0
  Made step cs ws calls answers (Ok c) cs' ws' answers' =
      InRange (length cs) (length ws) × (table c cs' ws' ≡ after step (laid_out (length cs) (length ws)) (made calls answers))
      × (answers' ≡ answers_after step (laid_out (length cs) (length ws)) calls answers)
  Made step cs ws calls answers (Err r) cs' ws' answers' = (laying cs ws ≡ unlaid cs ws r) × (cs' ≡ cs) × (ws' ≡ ws) × (answers' ≡ answers)

  -- the calls that were made are a run from a new table of r cells and w workers to the table that is left, and its books close
  abbrev pub BooksOf : KindStep I → ℕ → ℕ → List (Call I) → Result Control Refusal → List (Cell I) → List (Worker I) → Type 0
  BooksOf step r w calls (Ok c) cs ws = ((run step r w calls).table ≡ table c cs ws) × Sound (run step r w calls) × EmptyAttended step r w calls
  BooksOf step r w calls (Err x) cs ws = Unit {0}
