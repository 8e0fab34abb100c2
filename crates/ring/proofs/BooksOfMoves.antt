-- An assignment or a row of the engine keeps the books.
use Rattle.std.proofs.Common.{◌≡◌, ℕ, ◌+◌, true, cond, eqb, ◌⊎◌, List, get_or, Some, None, Ok, Option, sym, refl, ap, ◌∙◌, subst, inl, inr, arith}
use Rattle.std.proofs.lemmas.Bool.{eq-eqb, ne_eqb, cond-true, cond-false}
use Rattle.tickets.specs.declared.Ticket.{Ticket}
use Rattle.tickets.specs.declared.WorkerNo.{WorkerNo}
use Rattle.tickets.specs.Places.{round, slot}
use Rattle.ring.specs.declared.table.Cell.{Cell}
use Rattle.ring.specs.declared.table.Worker.{Worker}
use Rattle.ring.specs.declared.table.Value.TheVariants.{Item}
use Rattle.ring.specs.declared.answers.Answer.{Answer}
use Rattle.ring.specs.declared.call.Call.{Call}
use Rattle.ring.specs.declared.call.Call.TheVariants.{Step}
use Rattle.ring.specs.Table.{Counters, Table, ticket, fresh_cell, worker, Held}
use Rattle.ring.specs.Calls.{Outcome, is_worker}
use Rattle.ring.specs.Ledger.{Event, Ledger, State, work, worked, fed}
use Rattle.ring.proofs.Moves.{Move, Moved, move_from, move_counters, move_worker, move_answer, move_call, move_outcome, move_table, gets_enqueue, gets_dequeue, draws_tail, finds_open, finds_closed, finds_room, finds_full, shuts, draws_head, finds_more, finds_empty}
use Rattle.ring.proofs.Orderly.{Orderly}
use Rattle.ring.proofs.Writes.{put, each_put}
use Rattle.ring.proofs.Tickets.{move_grows, move_goes}
use Rattle.ring.proofs.Frames.{move_leaves}
use Rattle.ring.proofs.Attendance.{Attendance, at_work_in, outside_idle, working, attends_on, attends_more}
use Rattle.ring.proofs.Items.{Items, items_on}
use Rattle.ring.proofs.Books.{Books, ended, booked}

-- a step that leaves Head and ends no work leaves who is at work
pub work_same : (h : ℕ) (x : Option Ticket) → cond (eqb h (h + 1)) (Some (ticket h)) x ≡ x
work_same h x = cond-false (eqb h (h + 1)) (Some (ticket h)) x (ne_eqb h (h + 1) (λ e. omega arith))

module _ {I : Type 0} where
  -- the state after a call that came to o
  abbrev pub after_outcome : Table I → Ledger I → Call I → Outcome I → State I
  after_outcome t led c o = booked o.table (fed led c o.answer t.counters.head o.table.counters.head)

  module _ (barred : Table I → Ticket → Type 0) (t : Table I) (led : Ledger I) (o : Orderly t) (b : Books barred (booked t led)) (n : WorkerNo) (there : is_worker t n ≡ true) where
    -- who is at work after a step of the worker
    pub step_works : (c : Counters) (cs : List (Cell I)) (w : Worker I) (a : Answer I) (h h' : ℕ) → c.workers ≡ t.counters.workers → work a h h' (working (worker t n)) ≡ working w
        → (k : WorkerNo) → is_worker (put t c cs n w) k ≡ true → worked (Step n) a h h' led.at_work k ≡ working (worker (put t c cs n w) k)
    step_works c cs w a h h' crew e k x =
        each_put t o c cs n there w (λ m v. worked (Step n) a h h' led.at_work m ≡ working v)
        (cond-true (eqb n.0 n.0) (work a h h' (led.at_work n)) (led.at_work n) (eq-eqb n.0 n.0 refl) ∙ (ap (work a h h') (b.works n there) ∙ e))
        (λ m y d. cond-false (eqb m.0 n.0) (work a h h' (led.at_work m)) (led.at_work m) (ne_eqb m.0 n.0 d) ∙ b.works m y) k (rw crew at x)

    -- a worker that rests before an assignment rests after it
    assign_works : (c : Counters) (cs : List (Cell I)) (w : Worker I) → c.workers ≡ t.counters.workers → working (worker t n) ≡ working w
        → (k : WorkerNo) → is_worker (put t c cs n w) k ≡ true → led.at_work k ≡ working (worker (put t c cs n w) k)
    assign_works c cs w crew e k x =
        each_put t o c cs n there w (λ m v. led.at_work m ≡ working v) (b.works n there ∙ e) (λ m y d. b.works m y) k (rw crew at x)

  -- a move of the engine writes no event
  move_events : (m : Move I) (l : Ledger I) (n : WorkerNo) (w : Worker I) (h h' : ℕ) → (fed l (move_call m n) (Ok (move_answer m w)) h h').events ≡ l.events
  move_events (gets_enqueue i) l n w h h' = refl
  move_events gets_dequeue l n w h h' = refl
  move_events draws_tail l n w h h' = refl
  move_events finds_open l n w h h' = refl
  move_events (finds_closed i) l n w h h' = refl
  move_events finds_room l n w h h' = refl
  move_events finds_full l n w h h' = refl
  move_events (shuts i) l n w h h' = refl
  move_events draws_head l n w h h' = refl
  move_events finds_more l n w h h' = refl
  move_events finds_empty l n w h h' = refl

  -- only a draw from Head puts a dequeue at work
  move_rests : (m : Move I) (c : Counters) (w : Worker I) → (((move_counters m c).head ≡ c.head) × (working (move_worker m c w) ≡ None)) ⊎ (draws_head ≡ m)
  move_rests (gets_enqueue i) c w = inl (refl, refl)
  move_rests gets_dequeue c w = inl (refl, refl)
  move_rests draws_tail c w = inl (refl, refl)
  move_rests finds_open c w = inl (refl, refl)
  move_rests (finds_closed i) c w = inl (refl, refl)
  move_rests finds_room c w = inl (refl, refl)
  move_rests finds_full c w = inl (refl, refl)
  move_rests (shuts i) c w = inl (refl, refl)
  move_rests draws_head c w = inr refl
  move_rests finds_more c w = inl (refl, refl)
  move_rests finds_empty c w = inl (refl, refl)

  module _ (barred : Table I → Ticket → Type 0) (t : Table I) (led : Ledger I) (o : Orderly t) (b : Books barred (booked t led)) (n : WorkerNo) where
    move_idle_before : (m : Move I) → Moved t n m → working (worker t n) ≡ None
    move_idle_before m d = ap (λ p. at_work_in p (worker t n).ticket) d.standing ∙ outside_idle (move_from m) (worker t n).ticket (move_leaves m)

    move_still : (m : Move I) → Moved t n m
        → cond (eqb t.counters.head (t.counters.head + 1)) (Some (ticket t.counters.head)) (working (worker t n)) ≡ None
    move_still m d = work_same t.counters.head (working (worker t n)) ∙ move_idle_before m d

    assign_move : (m : Move I) → Moved t n m → working (move_worker m t.counters (worker t n)) ≡ None
        → (k : WorkerNo) → is_worker (move_table t n m) k ≡ true → led.at_work k ≡ working (worker (move_table t n m) k)
    assign_move m d e =
        assign_works barred t led o b n d.there (move_counters m t.counters) t.cells (move_worker m t.counters (worker t n))
        (move_grows m t.counters (worker t n) d.found).crew (move_idle_before m d ∙ sym e)

    step_move : (m : Move I) → Moved t n m
        → work (move_answer m (worker t n)) t.counters.head (move_counters m t.counters).head (working (worker t n))
        ≡ working (move_worker m t.counters (worker t n))
        → (k : WorkerNo) → is_worker (move_table t n m) k ≡ true
        → worked (Step n) (move_answer m (worker t n)) t.counters.head (move_counters m t.counters).head led.at_work k
        ≡ working (worker (move_table t n m) k)
    step_move m d =
        step_works barred t led o b n d.there (move_counters m t.counters) t.cells (move_worker m t.counters (worker t n)) (move_answer m (worker t n))
        t.counters.head (move_counters m t.counters).head (move_grows m t.counters (worker t n) d.found).crew

    -- who is at work after a move of the engine
    move_works : (m : Move I) → Moved t n m → (k : WorkerNo) → is_worker (move_table t n m) k ≡ true
        → (after_outcome t led (move_call m n) (move_outcome t n m)).ledger.at_work k ≡ working (worker (move_table t n m) k)
    move_works (gets_enqueue i) d = assign_move (gets_enqueue i) d refl
    move_works gets_dequeue d = assign_move gets_dequeue d refl
    move_works draws_tail d = step_move draws_tail d (move_still draws_tail d)
    move_works finds_open d = step_move finds_open d (move_still finds_open d)
    move_works (finds_closed i) d = step_move (finds_closed i) d (move_still (finds_closed i) d)
    move_works finds_room d = step_move finds_room d (move_still finds_room d)
    move_works finds_full d = step_move finds_full d (move_still finds_full d)
    move_works (shuts i) d = step_move (shuts i) d (move_still (shuts i) d)
    move_works draws_head d =
        step_move draws_head d
        (cond-true (eqb (t.counters.head + 1) (t.counters.head + 1)) (Some (ticket t.counters.head)) (working (worker t n))
        (eq-eqb (t.counters.head + 1) (t.counters.head + 1) refl))
    move_works finds_more d = step_move finds_more d (move_still finds_more d)
    move_works finds_empty d = step_move finds_empty d (move_still finds_empty d)

    move_attends : (m : Move I) → Moved t n m → Attendance (move_table t n m) (ended led.events)
    move_attends m d =
        elim (move_rests m t.counters (worker t n)) [
          | inl e ↦
              attends_on t o (ended led.events) b.attendance (move_counters m t.counters) t.cells n d.there
              (move_worker m t.counters (worker t n)) (move_grows m t.counters (worker t n) d.found) (ended led.events)
              (e.1 ∙ sym (move_idle_before m d)) e.0 (λ _. refl)
          | inr e ↦
              subst (λ (x : Move I). Attendance (move_table t n x) (ended led.events)) e
              (attends_more t o (ended led.events) b.attendance (move_counters {I = I} draws_head t.counters) t.cells n d.there
              (move_worker draws_head t.counters (worker t n))
              (move_grows draws_head t.counters (worker t n) (subst (λ (x : Move I). Moved t n x) (sym e) d).found) (ended led.events)
              (move_idle_before m d) refl refl (λ _. refl))
        ]

    move_held : (m : Move I) → Moved t n m → (k : Ticket) (i : I) → (Held t k i → Held (move_table t n m) k i) × (Held (move_table t n m) k i → Held t k i)
    move_held m d k i =
        let e = (move_grows m t.counters (worker t n) d.found).ring in
        let P : ℕ → Type 0 = λ r. ((get_or t.cells (slot r k) fresh_cell).value ≡ Item i) × ((get_or t.cells (slot r k) fresh_cell).pair.epoch ≡ round r k) in
        (subst P (sym e), subst P e)

    pub books_move : (m : Move I) → Moved t n m → ((k : Ticket) → barred t k → barred (move_table t n m) k)
        → Books barred (after_outcome t led (move_call m n) (move_outcome t n m))
    books_move m d bars =
        let es = move_events m led n (worker t n) t.counters.head (move_counters m t.counters).head in
        record {
          works = move_works m d;
          attendance = subst (λ (x : List (Event I)). Attendance (move_table t n m) (ended x)) (sym es) (move_attends m d);
          items =
              subst (Items barred (move_table t n m)) (sym es)
              (items_on barred t o led.events b.items n d.there (move_worker m t.counters (worker t n)) (move_counters m t.counters)
              t.cells (move_grows m t.counters (worker t n) d.found) (move_goes m t.counters (worker t n) d.standing) (move_held m d) refl
              bars);
        }
