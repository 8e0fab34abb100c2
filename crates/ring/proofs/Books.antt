-- The books of a table and its ledger: what the engine keeps of them, and that it is enough.
use Rattle.std.proofs.Common.{◌≡◌, ℕ, ◌+◌, ◌<◌, ◌≤◌, true, List, [], Err, sym, refl, ap, ◌∙◌, inl, inr, arith}
use Rattle.std.proofs.lemmas.Bool.{cases_lt}
use Rattle.tickets.specs.declared.Ticket.{Ticket}
use Rattle.tickets.specs.declared.WorkerNo.{WorkerNo}
use Rattle.ring.specs.declared.answers.Refusal.TheVariants.{Misfit}
use Rattle.ring.specs.Table.{Table, InRange, laid_out, worker, Held}
use Rattle.ring.specs.Turns.{KindStep}
use Rattle.ring.specs.Calls.{is_worker}
use Rattle.ring.specs.Ledger.{Event, Ledger, State, blank, run}
use Rattle.ring.specs.Books.{Sound, times, taking, passing, Attended}
use Rattle.ring.proofs.Orderly.{Orderly}
use Rattle.ring.proofs.New.{new_worker, new_cell, orderly_new}
use Rattle.ring.proofs.Events.{happened_places}
use Rattle.ring.proofs.Occupied.{occupied_none}
use Rattle.ring.proofs.Attendance.{Attendance, working}
use Rattle.ring.proofs.Items.{Items}

module _ {I : Type 0} where
  -- how often the ticket was taken or passed over
  abbrev pub ended : List (Event I) → ℕ → ℕ
  ended es k = times (taking k) es + times (passing k) es

  abbrev pub booked : Table I → Ledger I → State I
  booked t led = record { table = t; ledger = led }

  -- what the engine keeps of a table and its ledger
  pub record Books (barred : Table I → Ticket → Type 0) (s : State I) : Type 0 where
    pub works : (n : WorkerNo) → is_worker s.table n ≡ true → s.ledger.at_work n ≡ working (worker s.table n)
    pub attendance : Attendance s.table (ended s.ledger.events)
    pub items : Items barred s.table s.ledger.events

  module _ (barred : Table I → Ticket → Type 0) (t : Table I) (led : Ledger I) (o : Orderly t) (b : Books barred (booked t led)) where
    pub held_range : (k : Ticket) (i : I) → Held t k i → (t.counters.cells ≤ k.0) × (k.0 < t.counters.tail)
    held_range k i h =
        let p = happened_places k i led.events (b.items.held_is_placed k i h).0 in (
          elim (cases_lt k.0 t.counters.cells) [ inl e ↦ absurd (omega (arith, b.items.none_before k.0 e)) | inr e ↦ e ],
          elim (cases_lt k.0 t.counters.tail) [ inl e ↦ e | inr e ↦ absurd (omega (arith, b.items.none_later k.0 e)) ],
        )

    pub held_attended : (k : Ticket) (i : I) → Held t k i → k.0 < t.counters.head → Attended led k
    held_attended k i h l =
        let p = happened_places k i led.events (b.items.held_is_placed k i h).0 in
        let u = (b.items.held_is_placed k i h).1 in
        elim (b.attendance.accounted k.0 (held_range k i h).0 l) [
          | inl e ↦ elim (b.items.never_both k.0) [ inl z ↦ absurd (omega arith) | inr z ↦ absurd (omega arith) ]
          | inr e ↦ (e.0, b.works e.0 e.1 ∙ e.2)
        ]

    pub books_sound : Sound (booked t led)
    books_sound =
        record {
          placed_once = b.items.placed_once;
          taken_once = b.items.taken_once;
          taken_from_placed = b.items.taken_from_placed;
          held_is_placed = b.items.held_is_placed;
          placed_is_held = b.items.placed_is_held;
          balance = b.items.balance;
          never_both = b.items.never_both;
          attended = held_attended;
        }

  -- a new table's books
  module _ (barred : Table I → Ticket → Type 0) (step : KindStep I) (r w : ℕ) (h : InRange r w) where
    pub books_new : Books barred (run step r w [])
    books_new =
        record {
          works = λ n b. sym (ap working (new_worker r w n b));
          attendance =
              record {
                accounted = λ k l u. absurd (omega arith);
                unended = λ n b k e. refl;
                later = λ k e. refl;
              };
          items =
              record {
                none_before = λ k e. refl;
                none_later = λ k e. refl;
                unplaced = λ n b e. refl;
                placed_once = λ k. omega arith;
                taken_once = λ k. omega arith;
                taken_from_placed = tt;
                held_is_placed = λ k i e. let q = new_cell {I = I} r w k h.0 in cc;
                placed_is_held = λ k i e z. absurd e;
                balance = omega (arith, occupied_none I r);
                never_both = λ k. inl refl;
                passed_barred = λ k e. absurd (omega arith);
              };
        }

-- a new table with a blank ledger
pub new_sound : {I : Type 0} (r w : ℕ) → InRange r w → Sound (record { table = laid_out {I = I} r w; ledger = blank })
new_sound {I} r w h =
    let step : KindStep I = λ _ _ _ _ _. Err Misfit in
    let barred : Table I → Ticket → Type 0 = λ _ _. Unit {0} in
    books_sound barred (laid_out r w) blank (orderly_new r w h) (books_new barred step r w h)
