-- A turn of PRQ keeps the promises of all other workers.
use Rattle.std.specs.Prelude.{◌≡◌, ℕ, ◌/◌, true, ◌≢◌, refl}
use Rattle.std.proofs.Common.{sym, ap, ◌∙◌, inl, inr, arith}
use Rattle.tickets.specs.declared.WorkerNo.{WorkerNo}
use Rattle.tickets.specs.Places.{slot}
use Rattle.ring.specs.declared.table.Cell.{Cell}
use Rattle.ring.specs.Calls.{is_worker}
use Rattle.ring.specs.Laws.{Turned, then_table}
use Rattle.ring.specs.Table.{Table, worker, cell}
use Rattle.ring.specs.Turns.{Turn}
use Rattle.ring.proofs.Induction.{each_cell_after}
use Rattle.ring.proofs.Orderly.{Orderly}
use Rattle.ring.proofs.Rounds.{same_place}
use Rattle.prq.specs.Rows.{prq_step}
use Rattle.prq.specs.AfterTurn.{turn_seen, lock_after, not_locking, free_after, promise_here, clear_after, unlocked_else, clear_else}
use Rattle.prq.specs.Promises.{Promise, Promised, Bears, bears}

module _ {I : Type 0} where
  module _ (t : Table I) (o : Orderly t) (inv : Promised t) (n : WorkerNo) (out : Turn I) (d : Turned prq_step t n out) where
    abbrev r : ℕ
    r = t.counters.cells

    abbrev here : Cell I
    here = cell t (worker t n).ticket

    -- what another worker bears
    bears_here : (m : WorkerNo) → is_worker t m ≡ true → (m.0 ≢ n.0) → slot r (worker t m).ticket ≡ slot r (worker t n).ticket
        → Bears t (then_table t n out) m (worker t m).ticket (worker t m).phase here out.cell
    bears_here m b g e =
        record {
          ring = refl;
          rises = (turn_seen t o inv n out d).pair.rises;
          lock = λ p v. elim (turn_seen t o inv n out d).pair.lock [ inl q ↦ q | inr u ↦ absurd (u m b p e v) ];
          epoch = (turn_seen t o inv n out d).pair.epoch;
          token = (turn_seen t o inv n out d).value.token m g;
          item =
              λ i x v f.
              elim ((turn_seen t o inv n out d).value.item i v) [
                | inl z ↦ z
                | inr z ↦ absurd (o.apart m n b d.there g (cc) (λ y. cc) (let q : (worker t m).ticket.0 / r ≡ (worker t n).ticket.0 / r = cc in ap (λ k. k.0) (same_place r (worker t m).ticket (worker t n).ticket e (λ y. record { 0 = q y }))))
              ];
          unlocked = λ f u. lock_after t o inv n out d (slot r (worker t m).ticket) (not_locking t o inv n out d (let z = ap (λ x. x.epoch.0) f in omega arith)) u;
          free = λ f q. free_after t o inv n out d (rw e at q);
          clear = λ x u f c. clear_after t o inv n out d (worker t m).ticket e (o.dequeues m b x).1 u c;
        }

    bears_else : (m : WorkerNo) → (slot r (worker t m).ticket ≢ slot r (worker t n).ticket)
        → Bears t (then_table t n out) m (worker t m).ticket (worker t m).phase (cell t (worker t m).ticket) (cell t (worker t m).ticket)
    bears_else m h =
        record {
          ring = refl;
          rises = omega arith;
          lock = λ _ _. refl;
          epoch = inl refl;
          token = λ e. e;
          item = λ i _ e _. e;
          unlocked = λ _. unlocked_else t o inv n out d (worker t m).ticket (cell t (worker t m).ticket).value h;
          free = λ _ q. q.0;
          clear = λ _ _ _. clear_else t o inv n out d (worker t m).ticket (cell t (worker t m).ticket).pair h;
        }

    pub other_kept : (m : WorkerNo) → is_worker t m ≡ true → (m.0 ≢ n.0) → Promise (then_table t n out) m (worker t m) (cell (then_table t n out) (worker t m).ticket)
    other_kept m b g =
        each_cell_after prq_step t o n out d (λ k c. k ≡ (worker t m).ticket → Promise (then_table t n out) m (worker t m) c)
        (λ k e f.
        let h : slot r (worker t m).ticket ≡ slot r (worker t n).ticket = ap (slot r) (sym f) ∙ e in
        bears t (then_table t n out) m (worker t m) here out.cell (worker t m).phase (bears_here m b g h)
        (promise_here t o inv n out d m b h))
        (λ k h f.
        rw f
        (bears t (then_table t n out) m (worker t m) (cell t (worker t m).ticket) (cell t (worker t m).ticket) (worker t m).phase
        (bears_else m (λ e. h (ap (slot r) f ∙ e))) (inv m b)))
        (worker t m).ticket refl
