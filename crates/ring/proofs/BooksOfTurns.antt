-- A turn of a ring kind keeps the books.
use Rattle.std.proofs.Common.{◌≡◌, ℕ, ◌+◌, ◌≤◌, true, false, cond, eqb, List, ◌∷◌, Some, None, sym, refl, ap, ◌∙◌, arith}
use Rattle.tickets.specs.declared.Ticket.{Ticket}
use Rattle.tickets.specs.declared.WorkerNo.{WorkerNo}
use Rattle.ring.specs.declared.table.Worker.{Worker}
use Rattle.ring.specs.declared.table.Value.TheVariants.{Empty}
use Rattle.ring.specs.declared.table.Side.TheVariants.{Neither, Enqueuing}
use Rattle.ring.specs.declared.table.KindRow.{KindRow}
use Rattle.ring.specs.declared.table.Phase.TheVariants.{Kind}
use Rattle.ring.specs.declared.answers.Answer.{Answer}
use Rattle.ring.specs.declared.answers.Answer.TheVariants.{Working, Placed, Taken, PassedOver}
use Rattle.ring.specs.declared.call.Call.TheVariants.{Step}
use Rattle.ring.specs.Table.{Table, ticket, worker, cell, occupied, Held}
use Rattle.ring.specs.Phases.{kind_side}
use Rattle.ring.specs.Fields.{shut}
use Rattle.ring.specs.Turns.{Turn}
use Rattle.ring.specs.Calls.{is_worker}
use Rattle.ring.specs.Ledger.{Event, Ledger, State, noted, work, worked, placed, taken, passed_over}
use Rattle.ring.specs.Laws.{item_of, then_table}
use Rattle.ring.proofs.Orderly.{Orderly, drawn}
use Rattle.ring.proofs.Tickets.{Goes, grows_none}
use Rattle.ring.proofs.Events.{one_same, one_other}
use Rattle.ring.proofs.Attendance.{Attendance, on_side, at_work_in, working, attends_on, attends_less}
use Rattle.ring.proofs.Items.{Items, held_kept, occupied_kept, items_on, items_placed, items_taken, items_passed}
use Rattle.ring.proofs.Books.{Books, ended, booked}
use Rattle.ring.proofs.BooksOfMoves.{work_same, step_works}

module _ {I : Type 0} where
  -- the state after a turn, as if it had answered a
  abbrev pub answered : Table I → Ledger I → WorkerNo → Turn I → Answer I → State I
  answered t led n out a =
      booked (then_table t n out) (record { events = noted a led.events; at_work = worked (Step n) a t.counters.head t.counters.head led.at_work })

  -- a worker in one of the kind's phases is at work if it dequeues
  pub working_inside : (w : Worker I) (r : KindRow) → w.phase ≡ Kind r → working w ≡ on_side (kind_side r) w.ticket
  working_inside w r e = ap (λ p. at_work_in p w.ticket) e

  module _ (barred : Table I → Ticket → Type 0) (t : Table I) (led : Ledger I) (o : Orderly t) (b : Books barred (booked t led)) (n : WorkerNo) (there : is_worker t n ≡ true) (out : Turn I)
      (bars : (k : Ticket) → barred t k → barred (then_table t n out) k) where
    turn_works : (a : Answer I) → work a t.counters.head t.counters.head (working (worker t n)) ≡ working out.worker
        → (k : WorkerNo) → is_worker (then_table t n out) k ≡ true → (answered t led n out a).ledger.at_work k ≡ working (worker (then_table t n out) k)
    turn_works a e =
        step_works barred t led o b n there t.counters (then_table t n out).cells out.worker a t.counters.head t.counters.head refl e

    turn_still : working out.worker ≡ working (worker t n)
        → cond (eqb t.counters.head (t.counters.head + 1)) (Some (ticket t.counters.head)) (working (worker t n)) ≡ working out.worker
    turn_still e = work_same t.counters.head (working (worker t n)) ∙ sym e

    turn_attends_on : (es : List (Event I)) → working out.worker ≡ working (worker t n) → ((k : ℕ) → ended es k ≡ ended led.events k)
        → Attendance (then_table t n out) (ended es)
    turn_attends_on es e f =
        attends_on t o (ended led.events) b.attendance t.counters (then_table t n out).cells n there out.worker (grows_none t.counters) (ended es) e refl
        f

    turn_attends_less : (es : List (Event I)) → working (worker t n) ≡ Some (worker t n).ticket → working out.worker ≡ None
        → 1 ≤ ended es (worker t n).ticket.0 → ((k : ℕ) → (k ≡ (worker t n).ticket.0 → ⊥) → ended es k ≡ ended led.events k)
        → Attendance (then_table t n out) (ended es)
    turn_attends_less es e e' =
        attends_less t o (ended led.events) b.attendance t.counters (then_table t n out).cells n there out.worker (grows_none t.counters) (ended es)
        (worker t n).ticket e e' refl

    -- the cell keeps its item
    module _ (goes : Goes t.counters t.counters (worker t n) out.worker) (same : item_of out.cell.value ≡ item_of (cell t (worker t n).ticket).value)
        (epoch : occupied (cell t (worker t n).ticket).value ≡ true → out.cell.pair.epoch ≡ (cell t (worker t n).ticket).pair.epoch) where
      turn_held : (k : Ticket) (i : I) → (Held t k i → Held (then_table t n out) k i) × (Held (then_table t n out) k i → Held t k i)
      turn_held = held_kept t o (worker t n).ticket out.cell n out.worker same epoch

      turn_items : Items barred (then_table t n out) led.events
      turn_items =
          items_on barred t o led.events b.items n there out.worker t.counters (then_table t n out).cells (grows_none t.counters) goes turn_held
          (occupied_kept t o (worker t n).ticket out.cell n out.worker same) bars

      pub books_working : working out.worker ≡ working (worker t n) → Books barred (answered t led n out Working)
      books_working e = record { works = turn_works Working (turn_still e); attendance = turn_attends_on led.events e (λ _. refl); items = turn_items }

      pub books_passed : working (worker t n) ≡ Some (worker t n).ticket → working out.worker ≡ None → ((i : I) → Held t (worker t n).ticket i → ⊥)
          → barred (then_table t n out) (worker t n).ticket → Books barred (answered t led n out (PassedOver (worker t n).ticket))
      books_passed e e' unheld shut =
          let l = (worker t n).ticket in
          let u = b.attendance.unended n there l e in
          record {
            works = turn_works (PassedOver l) (sym e');
            attendance =
                turn_attends_less (passed_over l ∷ led.events) e e' (omega (arith, one_same l.0 l.0 refl)) (λ k h. omega (arith, one_other l.0 k (λ y. h (sym y))));
            items =
                items_passed barred (then_table t n out) led.events turn_items l (λ i h. unheld i ((turn_held l i).1 h)) (omega arith) shut;
          }

    pub books_taken : (i : I) → working (worker t n) ≡ Some (worker t n).ticket → drawn out.worker.phase ≡ Neither → working out.worker ≡ None
        → Held t (worker t n).ticket i → out.cell.value ≡ Empty → Books barred (answered t led n out (Taken (worker t n).ticket i))
    books_taken i e r e' held empty =
        let l = (worker t n).ticket in
        record {
          works = turn_works (Taken l i) (sym e');
          attendance = turn_attends_less (taken l i ∷ led.events) e e' (omega (arith, one_same l.0 l.0 refl)) (λ k h. omega (arith, one_other l.0 k (λ y. h (sym y))));
          items = items_taken barred t o led.events b.items n there out.worker l out.cell i r held empty bars;
        }

    pub books_placed : (i : I) → drawn (worker t n).phase ≡ Enqueuing → drawn out.worker.phase ≡ Neither → working out.worker ≡ working (worker t n)
        → occupied (cell t (worker t n).ticket).value ≡ false → (barred t (worker t n).ticket → ⊥)
        → Held (then_table t n out) (worker t n).ticket i → Books barred (answered t led n out (Placed (worker t n).ticket i))
    books_placed i d r e free unbarred held =
        let l = (worker t n).ticket in
        record {
          works = turn_works (Placed l i) (turn_still e);
          attendance = turn_attends_on (placed l i ∷ led.events) e (λ k. omega arith);
          items = items_placed barred t o led.events b.items n there out.worker l out.cell i refl d r free unbarred held bars;
        }
