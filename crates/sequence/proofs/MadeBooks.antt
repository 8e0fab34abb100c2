-- What laying out and a list of calls leave in memory, and its books.
use Rattle.std.proofs.Common.{◌≡◌, List, length, Ok, Err, Result, sym, ap, ◌∙◌}
use Rattle.ring.specs.declared.table.Cell.{Cell}
use Rattle.ring.specs.declared.table.Worker.{Worker}
use Rattle.ring.specs.declared.control.Control.{Control}
use Rattle.ring.specs.declared.answers.Answer.{Answer}
use Rattle.ring.specs.declared.answers.Refusal.{Refusal}
use Rattle.ring.specs.declared.call.Call.{Call}
use Rattle.ring.specs.Turns.{KindStep}
use Rattle.ring.specs.Calls.{after}
use Rattle.ring.specs.Books.{BooksClose}
use Rattle.ring.proofs.Led.{run_led}
use Rattle.calls.specs.Promise.{table}
use Rattle.calls.specs.Laying.{laying}
use Rattle.calls.proofs.Opens.{at_exit, laying_done}
use Rattle.sequence.specs.Sequence.{made, answers_after, Made, BooksOf}

module _ {I : Type 0} where
  pub made_books : (step : KindStep I) → BooksClose step → (r : Result Control Refusal) (cs cs' : List (Cell I)) (ws ws' : List (Worker I)) (calls : List (Call I))
      (answers answers' : List (Result (Answer I) Refusal)) → Made step cs ws calls answers r cs' ws' answers' → BooksOf step (length cs) (length ws) (made calls answers) r cs' ws'
  made_books step close (Err x) cs cs' ws ws' calls answers answers' m = tt
  made_books step close (Ok c) cs cs' ws ws' calls answers answers' m =
      let b = close (length cs) (length ws) m.0 (made calls answers) in
      (sym (m.1 ∙ run_led step (length cs) (length ws) (made calls answers)), b.0, b.1)

  -- laid out in cs' and ws', then called with the table in cs'' and ws'', which is what the memory holds at the end
  pub made_over : (step : KindStep I) (c c' : Control) (cs cs' cs'' left : List (Cell I)) (ws ws' ws'' crew : List (Worker I)) (calls : List (Call I))
      (answers answers' : List (Result (Answer I) Refusal)) → at_exit (Ok c) cs' ws' ≡ laying cs ws → left ≡ cs'' → crew ≡ ws''
      → table c' cs'' ws'' ≡ after step (table c cs' ws') (made calls answers) → answers' ≡ answers_after step (table c cs' ws') calls answers
      → Made step cs ws calls answers (Ok c') left crew answers'
  made_over step c c' cs cs' cs'' left ws ws' ws'' crew calls answers answers' l p q t a =
      let e = laying_done c cs' cs ws' ws l in (
        e.0,
        (λ i. table c' (p i) (q i)) ∙ (t ∙ ap (λ u. after step u (made calls answers)) e.1),
        a ∙ ap (λ u. answers_after step u calls answers) e.1,
      )
