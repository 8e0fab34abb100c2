-- Every ticket below Head has ended, taken or passed over, or has a dequeue at work on it.
use Rattle.std.proofs.Common.{◌≡◌, ℕ, ◌+◌, ◌<◌, ◌≤◌, true, ◌⊎◌, List, Some, None, Option, sym, refl, ap, ◌∙◌, subst, inl, inr, arith}
use Rattle.std.proofs.lemmas.Bool.{cases_eq}
use Rattle.tickets.specs.declared.Ticket.{Ticket}
use Rattle.tickets.specs.declared.WorkerNo.{WorkerNo}
use Rattle.ring.specs.declared.table.Cell.{Cell}
use Rattle.ring.specs.declared.table.Worker.{Worker}
use Rattle.ring.specs.declared.table.Side.{Side}
use Rattle.ring.specs.declared.table.Side.TheVariants.{Neither, Enqueuing, Dequeuing}
use Rattle.ring.specs.declared.table.Phase.{Phase}
use Rattle.ring.specs.declared.table.Phase.TheVariants.{Idle, Engine, Kind}
use Rattle.ring.specs.Table.{Counters, Table, ticket, worker}
use Rattle.ring.specs.Phases.{kind_side, Outside}
use Rattle.ring.specs.Calls.{is_worker}
use Rattle.ring.proofs.Equals.{same_number}
use Rattle.ring.proofs.Orderly.{Orderly, drawn, worker_range}
use Rattle.ring.proofs.Writes.{put, put_same, put_other, each_put}
use Rattle.ring.proofs.Tickets.{Grows}

abbrev pub on_side : Side → Ticket → Option Ticket
on_side Neither k = None
on_side Enqueuing k = None
on_side Dequeuing k = Some k

abbrev pub at_work_in : Phase → Ticket → Option Ticket
at_work_in Idle k = None
at_work_in (Engine e) k = None
at_work_in (Kind r) k = on_side (kind_side r) k

pub outside_idle : (p : Phase) (k : Ticket) → Outside p → at_work_in p k ≡ None
outside_idle Idle k h = refl
outside_idle (Engine e) k h = refl
outside_idle (Kind r) k h = absurd h

-- at work in a phase is a dequeue in one of the kind's phases
pub at_work_is : (p : Phase) (l k : Ticket) → at_work_in p l ≡ Some k → (drawn p ≡ Dequeuing) × (l ≡ k)
at_work_is Idle l k e = cc
at_work_is (Engine x) l k e = cc
at_work_is (Kind r) l k e = go (kind_side r) e
  where
    go : (s : Side) → on_side s l ≡ Some k → (s ≡ Dequeuing) × (l ≡ k)
    go Neither f = cc
    go Enqueuing f = cc
    go Dequeuing f = (refl, cc)

module _ {I : Type 0} where
  -- the ticket that the worker's dequeue is at work on
  abbrev pub working : Worker I → Option Ticket
  working w = at_work_in w.phase w.ticket

  abbrev pub Tended : Table I → ℕ → Type 0
  Tended t k = (n : WorkerNo) × (is_worker t n ≡ true) × (working (worker t n) ≡ Some (ticket k))

  -- ended counts how often each ticket was taken or passed over
  pub record Attendance (t : Table I) (ended : ℕ → ℕ) : Type 0 where
    pub accounted : (k : ℕ) → t.counters.cells ≤ k → k < t.counters.head → (1 ≤ ended k) ⊎ Tended t k
    pub unended : (n : WorkerNo) → is_worker t n ≡ true → (k : Ticket) → working (worker t n) ≡ Some k → ended k.0 ≡ 0
    pub later : (k : ℕ) → t.counters.head ≤ k → ended k ≡ 0

  module _ (t : Table I) (o : Orderly t) (ended : ℕ → ℕ) (a : Attendance t ended) (c : Counters) (cs : List (Cell I)) (n : WorkerNo) (there : is_worker t n ≡ true) (w : Worker I)
      (grows : Grows t.counters c) (ended' : ℕ → ℕ) where
    still_tended : (k : ℕ) → (working (worker t n) ≡ Some (ticket k) → working w ≡ Some (ticket k)) → Tended t k → Tended (put t c cs n w) k
    still_tended k f (m, b, e) =
        elim (cases_eq m.0 n.0) [
          | inl s ↦
              (n, rw grows.crew there, ap working (put_same t o c cs n there w) ∙ f (subst (λ (x : WorkerNo). working (worker t x) ≡ Some (ticket k)) (same_number s) e))
          | inr h ↦ (
            m,
            rw grows.crew b,
            let p = worker_range t n there in let q = worker_range t m b in ap working (put_other t o c cs n there w m (omega arith)) ∙ e,
          )
        ]

    was_there : (m : WorkerNo) → is_worker (put t c cs n w) m ≡ true → is_worker t m ≡ true
    was_there m b = rw grows.crew at b

    -- nothing begins or ends
    pub attends_on : working w ≡ working (worker t n) → c.head ≡ t.counters.head → ((k : ℕ) → ended' k ≡ ended k) → Attendance (put t c cs n w) ended'
    attends_on e h f =
        record {
          accounted =
              λ k l u.
              elim (a.accounted k (omega (arith, grows.ring)) (omega arith)) [
                | inl x ↦ inl (omega (arith, f k))
                | inr x ↦ inr (still_tended k (λ y. e ∙ y) x)
              ];
          unended =
              λ m b. each_put t o c cs n there w (λ _ v. (k : Ticket) → working v ≡ Some k → ended' k.0 ≡ 0) (λ k x. f k.0 ∙ a.unended n there k (sym e ∙ x))
              (λ j d _ k x. f k.0 ∙ a.unended j d k x) m (was_there m b);
          later = λ k x. f k ∙ a.later k (omega arith);
        }

    -- the worker draws a ticket from Head
    pub attends_more : working (worker t n) ≡ None → working w ≡ Some (ticket t.counters.head) → c.head ≡ t.counters.head + 1 → ((k : ℕ) → ended' k ≡ ended k)
        → Attendance (put t c cs n w) ended'
    attends_more e e' h f =
        record {
          accounted =
              λ k l u.
              elim (cases_eq k t.counters.head) [
                | inl x ↦ inr (n, rw grows.crew there, ap working (put_same t o c cs n there w) ∙ (e' ∙ ap (λ y. Some (ticket y)) (sym x)))
                | inr x ↦
                    elim (a.accounted k (omega (arith, grows.ring)) (omega arith)) [
                      | inl y ↦ inl (omega (arith, f k))
                      | inr y ↦ inr (still_tended k (λ z. cc) y)
                    ]
              ];
          unended =
              λ m b. each_put t o c cs n there w (λ _ v. (k : Ticket) → working v ≡ Some k → ended' k.0 ≡ 0)
              (λ k x. let q : t.counters.head ≡ k.0 = cc in f k.0 ∙ a.later k.0 (omega arith)) (λ j d _ k x. f k.0 ∙ a.unended j d k x) m (was_there m b);
          later = λ k x. f k ∙ a.later k (omega arith);
        }

    -- the worker's dequeue ends on the ticket
    pub attends_less : (l : Ticket) → working (worker t n) ≡ Some l → working w ≡ None → c.head ≡ t.counters.head → 1 ≤ ended' l.0 → ((k : ℕ) → (k ≡ l.0 → ⊥) → ended' k ≡ ended k)
        → Attendance (put t c cs n w) ended'
    attends_less l e e' h g f =
        let v = at_work_is (worker t n).phase (worker t n).ticket l e in
        record {
          accounted =
              λ k x u.
              elim (cases_eq k l.0) [
                | inl y ↦ inl (rw y g)
                | inr y ↦
                    elim (a.accounted k (omega (arith, grows.ring)) (omega arith)) [
                      | inl z ↦ inl (omega (arith, f k y))
                      | inr z ↦ inr (still_tended k (λ q. absurd (y (cc))) z)
                    ]
              ];
          unended =
              λ m b. each_put t o c cs n there w (λ _ v. (k : Ticket) → working v ≡ Some k → ended' k.0 ≡ 0) (λ k x. cc)
              (λ j d p k x. f k.0 (λ y. let u = at_work_is (worker t j).phase (worker t j).ticket k x in
              o.apart j n d there p (u.0 ∙ sym v.0) (λ z. cc) (cc)) ∙ a.unended j d k x) m (was_there m b);
          later = λ k x. f k (λ y. let r = o.dequeues n there v.0 in let q : (worker t n).ticket.0 ≡ l.0 = ap (λ z. z.0) v.1 in omega arith) ∙ a.later k (omega arith);
        }
