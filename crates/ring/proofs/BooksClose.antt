-- The books of every run close: what the laws of a ring kind come to.
use Rattle.std.proofs.Common.{◌≡◌, ℕ, true, List, [], ◌∷◌, Ok, sym, refl, ap, ◌∙◌, subst, arith}
use Rattle.tickets.specs.declared.Ticket.{Ticket}
use Rattle.tickets.specs.declared.WorkerNo.{WorkerNo}
use Rattle.ring.specs.declared.table.Worker.{Worker}
use Rattle.ring.specs.declared.table.Side.{Side}
use Rattle.ring.specs.declared.table.Side.TheVariants.{Neither, Enqueuing, Dequeuing}
use Rattle.ring.specs.declared.answers.Answer.{Answer}
use Rattle.ring.specs.declared.answers.Answer.TheVariants.{Working, Placed, Taken, PassedOver, Empty}
use Rattle.ring.specs.declared.call.Call.{Call}
use Rattle.ring.specs.Table.{Table, InRange, worker, cell, occupied, Held}
use Rattle.ring.specs.Phases.{side}
use Rattle.ring.specs.Turns.{Turn, KindStep}
use Rattle.ring.specs.Calls.{Outcome, turned, row, called}
use Rattle.ring.specs.Ledger.{Ledger, run}
use Rattle.ring.specs.Books.{Attended, EmptyAttended, BooksClose}
use Rattle.ring.specs.Laws.{Reached, Turned, EnqueueTurn, DequeueTurn, item_of, then_table, TurnOf, TouchesItsOwn, NeitherWay, PlacesFree, TakesHeld, LeavesItems, PassesBarred, StaysBarred}
use Rattle.ring.proofs.Moves.{Move, Moved, move_answer, move_outcome, move_table, gets_enqueue, gets_dequeue, draws_tail, finds_open, finds_closed, finds_room, finds_full, shuts, draws_head, finds_more, finds_empty}
use Rattle.ring.proofs.Comes.{Comes, call_comes, refuses, moves, turns}
use Rattle.ring.proofs.Orderly.{Orderly, drawn}
use Rattle.ring.proofs.Tickets.{Goes, turn_goes}
use Rattle.ring.proofs.Frames.{move_framed}
use Rattle.ring.proofs.Lawful.{Lawful, OfReached}
use Rattle.ring.proofs.Induction.{reached_orderly}
use Rattle.ring.proofs.Attendance.{on_side, at_work_in, working}
use Rattle.ring.proofs.Books.{Books, booked, held_range, held_attended, books_sound, books_new}
use Rattle.ring.proofs.BooksOfMoves.{after_outcome, books_move}
use Rattle.ring.proofs.BooksOfTurns.{answered, working_inside, books_working, books_passed, books_taken, books_placed}
use Rattle.ring.proofs.Led.{run_led}

module _ {I : Type 0} where
  -- only the row that found the queue empty answers so
  empty_move : (m : Move I) (w : Worker I) (d : Ticket) → move_answer m w ≡ Empty d → m ≡ finds_empty
  empty_move (gets_enqueue i) w d e = cc
  empty_move gets_dequeue w d e = cc
  empty_move draws_tail w d e = cc
  empty_move finds_open w d e = cc
  empty_move (finds_closed i) w d e = cc
  empty_move finds_room w d e = cc
  empty_move finds_full w d e = cc
  empty_move (shuts i) w d e = cc
  empty_move draws_head w d e = cc
  empty_move finds_more w d e = cc
  empty_move finds_empty w d e = refl

  never_empty : (x : Side) (w : Worker I) (out : Turn I) (d : Ticket) → TurnOf x w out → out.answer ≡ Empty d → ⊥
  never_empty Neither w out d y e = y
  never_empty Enqueuing w out d (EnqueueTurn.went_on a k r p q) e = cc
  never_empty Enqueuing w out d (EnqueueTurn.gave_up a k p) e = cc
  never_empty Enqueuing w out d (EnqueueTurn.did_place i it a f) e = cc
  never_empty Dequeuing w out d (DequeueTurn.went_on a k r p q) e = cc
  never_empty Dequeuing w out d (DequeueTurn.did_pass a k p) e = cc
  never_empty Dequeuing w out d (DequeueTurn.did_take i a f) e = cc

module _ {I : Type 0} (step : KindStep I) (held : Table I → Ticket → I → Type 0) (barred : Table I → Ticket → Type 0) (laws : Lawful step held barred) where
  orderly : (t : Table I) → Reached step t → Orderly t
  orderly = reached_orderly step laws.touches_its_own_lem

  module _ (t : Table I) (led : Ledger I) (r : Reached step t) (b : Books barred (booked t led)) (n : WorkerNo) (out : Turn I) (d : Turned step t n out) where
    bars : (k : Ticket) → barred t k → barred (then_table t n out) k
    bars k = (laws.stays_barred_lem t r).0 n out k d

    drawn_side : (x : Side) → side (worker t n).phase ≡ x → drawn (worker t n).phase ≡ x
    drawn_side x e = ap drawn d.inside ∙ (sym (ap side d.inside) ∙ e)

    working_side : (x : Side) → side (worker t n).phase ≡ x → working (worker t n) ≡ on_side x (worker t n).ticket
    working_side x e =
        working_inside (worker t n) d.standing d.inside ∙ ap (λ y. on_side y (worker t n).ticket) (sym (ap side d.inside) ∙ e)

    answers : (a : Answer I) → out.answer ≡ a → Books barred (answered t led n out a) → Books barred (answered t led n out out.answer)
    answers a e = subst (λ (y : Answer I). Books barred (answered t led n out y)) (sym e)

    -- the cell keeps its item where the answer neither places nor takes
    leaves : NeitherWay out.answer
        → (item_of out.cell.value ≡ item_of (cell t (worker t n).ticket).value)
        × (occupied (cell t (worker t n).ticket).value ≡ true → out.cell.pair.epoch ≡ (cell t (worker t n).ticket).pair.epoch)
    leaves = laws.leaves_items_lem t r n out d

    working_books : out.answer ≡ Working → Goes t.counters t.counters (worker t n) out.worker → working out.worker ≡ working (worker t n)
        → Books barred (answered t led n out out.answer)
    working_books a g e =
        let l = leaves (λ k i x. cc, λ k i x. cc) in
        answers Working a (books_working barred t led (orderly t r) b n d.there out bars g l.0 l.1 e)

    turn_books : (x : Side) → side (worker t n).phase ≡ x → TurnOf x (worker t n) out → Books barred (answered t led n out out.answer)
    turn_books Neither e y = absurd y
    turn_books Enqueuing e (EnqueueTurn.went_on a k row p q) =
        working_books a (turn_goes Enqueuing t.counters (worker t n) out (drawn_side Enqueuing e) (EnqueueTurn.went_on a k row p q))
        (cc (working_inside out.worker row p, working_side Enqueuing e))
    turn_books Enqueuing e (EnqueueTurn.gave_up a k p) =
        working_books a (turn_goes Enqueuing t.counters (worker t n) out (drawn_side Enqueuing e) (EnqueueTurn.gave_up a k p))
        (cc (ap (λ y. at_work_in y out.worker.ticket) p, working_side Enqueuing e))
    turn_books Enqueuing e (EnqueueTurn.did_place i it a f) =
        let l = laws.places_free_lem t r n out (worker t n).ticket i d a in
        answers (Placed (worker t n).ticket i) a
        (books_placed barred t led (orderly t r) b n d.there out bars i (drawn_side Enqueuing e) (ap (λ y. drawn y.phase) f) (ap working f ∙ sym (working_side Enqueuing e)) l.0 l.1
        ((laws.meaning (then_table t n out) (worker t n).ticket i).0 l.2))
    turn_books Dequeuing e (DequeueTurn.went_on a k row p q) =
        working_books a (turn_goes Dequeuing t.counters (worker t n) out (drawn_side Dequeuing e) (DequeueTurn.went_on a k row p q))
        (cc (working_inside out.worker row p, working_side Dequeuing e))
    turn_books Dequeuing e (DequeueTurn.did_pass a k p) =
        let l = leaves (λ k i x. cc, λ k i x. cc) in
        let m = laws.passes_barred_lem t r n out (worker t n).ticket d a in
        answers (PassedOver (worker t n).ticket) a
        (books_passed barred t led (orderly t r) b n d.there out bars
        (turn_goes Dequeuing t.counters (worker t n) out (drawn_side Dequeuing e) (DequeueTurn.did_pass a k p)) l.0 l.1 (working_side Dequeuing e)
        (ap (λ y. at_work_in y out.worker.ticket) p) (λ i h. m.0 i ((laws.meaning t (worker t n).ticket i).1 h)) m.1)
    turn_books Dequeuing e (DequeueTurn.did_take i a f) =
        let l = laws.takes_held_lem t r n out (worker t n).ticket i d a in
        answers (Taken (worker t n).ticket i) a
        (books_taken barred t led (orderly t r) b n d.there out bars i (working_side Dequeuing e) (ap (λ y. drawn y.phase) f) (ap working f)
        ((laws.meaning t (worker t n).ticket i).0 l.0) l.1)

  -- the books stand after any call
  books_call : (t : Table I) (led : Ledger I) → Reached step t → Books barred (booked t led) → (c : Call I) (x : Outcome I) → Comes step t c x → Books barred (after_outcome t led c x)
  books_call t led r b c x (refuses y e) = subst (λ (z : Outcome I). Books barred (after_outcome t led c z)) (sym e) b
  books_call t led r b c x (moves n m d f e) =
      subst (λ (z : Outcome I). Books barred (after_outcome t led c z)) (sym e)
      (subst (λ (z : Call I). Books barred (after_outcome t led z (move_outcome t n m))) (sym f)
      (books_move barred t led (orderly t r) b n m d
      (λ k. (laws.stays_barred_lem t r).1 (move_table t n m) k (move_framed t (orderly t r) n m d))))
  books_call t led r b c x (turns n out d f e) =
      subst (λ (z : Outcome I). Books barred (after_outcome t led c z)) (sym e)
      (subst (λ (z : Call I). Books barred (after_outcome t led z (turned t n (worker t n).ticket (Ok out)))) (sym f)
      (turn_books t led r b n out d (side (worker t n).phase) refl ((laws.touches_its_own_lem t r).0 n out d)))

  -- at an answer empty every ticket held has a dequeue at work on it
  empty_attended : (t : Table I) (led : Ledger I) → Reached step t → Books barred (booked t led) → (c : Call I) (x : Outcome I) → Comes step t c x
      → (d : Ticket) (k : Ticket) (i : I) → x.answer ≡ Ok (Empty d) → Held t k i → Attended led k
  empty_attended t led r b c x (refuses y e) d k i a h = cc
  empty_attended t led r b c x (moves n m w f e) d k i a h =
      let q : move_answer m (worker t n) ≡ Empty d = cc in
      let v : Moved t n finds_empty = subst (λ (y : Move I). Moved t n y) (empty_move m (worker t n) d q) w in
      let o = orderly t r in
      let u = o.dequeues n v.there (ap drawn v.standing) in
      held_attended barred t led o b k i h (omega (arith, v.found, held_range barred t led o b k i h))
  empty_attended t led r b c x (turns n out w f e) d k i a h =
      absurd (never_empty (side (worker t n).phase) (worker t n) out d ((laws.touches_its_own_lem t r).0 n out w) (cc))

  module _ (r w : ℕ) (h : InRange r w) where
    run_reached : (calls : List (Call I)) → Reached step (run step r w calls).table
    run_reached calls = record { ring = r; crew = w; in_range = h; calls = calls; led = run_led step r w calls }

    books_run : (calls : List (Call I)) → Books barred (run step r w calls)
    books_run [] = books_new barred step r w h
    books_run (c ∷ cs) = books_call (run step r w cs).table (run step r w cs).ledger (run_reached cs) (books_run cs) c (called step (run step r w cs).table c) (call_comes step (run step r w cs).table c)

    empty_run : (calls : List (Call I)) → EmptyAttended step r w calls
    empty_run [] = tt
    empty_run (c ∷ cs) =
        (empty_attended (run step r w cs).table (run step r w cs).ledger (run_reached cs) (books_run cs) c (called step (run step r w cs).table c) (call_comes step (run step r w cs).table c), empty_run cs)

  pub books_close_lem : BooksClose step
  books_close_lem r w h calls =
      (books_sound barred (run step r w calls).table (run step r w calls).ledger (orderly (run step r w calls).table (run_reached r w h calls)) (books_run r w h calls), empty_run r w h calls)

-- the same from the laws one by one, as a bound on a kind gives them
pub books_close_by : {I : Type 0} (step : KindStep I) (held : Table I → Ticket → I → Type 0) (barred : Table I → Ticket → Type 0)
    → ((t : Table I) (k : Ticket) (i : I) → (held t k i → Held t k i) × (Held t k i → held t k i)) → OfReached step (TouchesItsOwn step)
    → OfReached step (PlacesFree step held barred) → OfReached step (TakesHeld step held barred) → OfReached step (LeavesItems step held barred)
    → OfReached step (PassesBarred step held barred) → OfReached step (StaysBarred step barred) → BooksClose step
books_close_by step held barred m a b c d e f =
    books_close_lem step held barred
    (record { meaning = m; touches_its_own_lem = a; places_free_lem = b; takes_held_lem = c; leaves_items_lem = d; passes_barred_lem = e; stays_barred_lem = f })
