-- A call that does what its definition says continues the books of the run before it.
use Rattle.std.proofs.Common.{◌≡◌, List, ◌∷◌, Result, sym, ap, ◌∙◌}
use Rattle.ring.specs.declared.answers.Answer.{Answer}
use Rattle.ring.specs.declared.answers.Refusal.{Refusal}
use Rattle.ring.specs.declared.control.Control.{Control}
use Rattle.ring.specs.declared.table.Cell.{Cell}
use Rattle.ring.specs.declared.table.Worker.{Worker}
use Rattle.ring.specs.declared.call.Call.{Call}
use Rattle.ring.specs.Table.{Table}
use Rattle.ring.specs.Turns.{KindStep}
use Rattle.ring.specs.Calls.{Outcome, called}
use Rattle.ring.specs.Books.{BooksClose}
use Rattle.calls.specs.Promise.{Continues, left, table}

pub continues : {I : Type 0} (step : KindStep I) → BooksClose step → (t : Table I) (call : Call I) (o : Outcome I) → o ≡ called step t call → Continues step t call o.table
continues step close t call o done r w h earlier led =
    let b = close r w h (call ∷ earlier) in
    (ap (λ u. (called step u call).table) led ∙ sym (ap (λ x. x.table) done), b.0, b.1)

-- the same where what the memory holds at the end has another name
pub continues_in : {I : Type 0} (step : KindStep I) → BooksClose step → (t : Table I) (call : Call I) (c : Control) (r : Result (Answer I) Refusal) (cs cs' : List (Cell I)) (ws ws' : List (Worker I)) → cs' ≡ cs → ws' ≡ ws → left c cs ws r ≡ called step t call → Continues step t call (table c cs' ws')
continues_in step close t call c r cs cs' ws ws' p q done = continues step close t call (left c cs' ws' r) (ap (λ x. left c x ws' r) p ∙ (ap (λ x. left c cs x r) q ∙ done))
