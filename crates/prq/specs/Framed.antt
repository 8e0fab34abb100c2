-- What a ring kind must bear keeps every promise of PRQ.
use Rattle.std.specs.Prelude.{◌≡◌, ℕ, ◌≢◌, refl}
use Rattle.std.proofs.Common.{sym, ap, subst, inl, inr, arith}
use Rattle.tickets.specs.declared.Ticket.{Ticket}
use Rattle.tickets.specs.declared.WorkerNo.{WorkerNo}
use Rattle.tickets.specs.Places.{slot}
use Rattle.ring.specs.declared.table.Pair.{Pair}
use Rattle.ring.specs.declared.table.Value.{Value}
use Rattle.ring.specs.declared.table.Cell.{Cell}
use Rattle.ring.specs.declared.table.KindRow.{KindRow}
use Rattle.ring.specs.declared.table.Phase.{Phase}
use Rattle.ring.specs.declared.table.Worker.{Worker}
use Rattle.ring.specs.declared.table.KindRow.TheVariants.{E3, E6, E7, E8, D2}
use Rattle.ring.specs.declared.table.Phase.TheVariants.{Idle, Engine, Kind}
use Rattle.ring.specs.Laws.{Framed}
use Rattle.ring.specs.Table.{Table, worker, cell}
use Rattle.ring.proofs.Frames.{framed_there, framed_cell, framed_worker}
use Rattle.prq.specs.Barred.{AtDoor, Unlocked, Clear}
use Rattle.prq.specs.Promises.{AtRow, AtPhase, Promise, Promised, Bears, bears}

module _ {I : Type 0} where
  -- a table that differs from t in what a ring kind must bear
  module _ (t t' : Table I) (f : Framed t t') where
    -- a worker past the kind's entries is as it was
    was_same : (m : WorkerNo) (j : KindRow) → (worker t' m).phase ≡ Kind j → (j ≢ E3) → (j ≢ D2) → worker t' m ≡ worker t m
    was_same m j e g h = elim (framed_worker t t' f m j e) [ inl a ↦ a | inr (inl a) ↦ absurd (g a) | inr (inr a) ↦ absurd (h a) ]

    pub unlocked_framed : (j : ℕ) (v : Value I) → Unlocked t j v → Unlocked t' j v
    unlocked_framed j v u m b p q e =
        let a = was_same m E8 p (λ z. cc) (λ z. cc) in
        u m (framed_there t t' f m b) (cc) (cc (q, f.ring, a)) e

    pub clear_framed : (k : Ticket) (p : Pair) → Clear t k p → Clear t' k p
    clear_framed k p c m b x q l e = go x
      where
        same : worker t' m ≡ worker t m → ⊥
        same a =
            c m (framed_there t t' f m b) (subst (λ (w : Worker I). AtDoor w.phase) a x) (cc (q, f.ring, a)) (let z = ap (λ (w : Worker I). w.ticket.0) a in omega arith) (cc)

        go : AtDoor (worker t' m).phase → ⊥
        go (inl z) = same (was_same m E6 z (λ y. cc) (λ y. cc))
        go (inr z) = same (was_same m E7 z (λ y. cc) (λ y. cc))

    bears_framed : (m : WorkerNo) (k : Ticket) (x : Phase) (s : Cell I) → Bears t t' m k x s s
    bears_framed m k x s =
        record {
          ring = f.ring;
          rises = omega arith;
          lock = λ _ _. refl;
          epoch = inl refl;
          token = λ e. e;
          item = λ i _ e _. e;
          unlocked = λ _ u. unlocked_framed (slot t'.counters.cells k) s.value (subst (λ r. Unlocked t (slot r k) s.value) (sym f.ring) u);
          free = λ _ q. q.0;
          clear = λ _ _ _. clear_framed k s.pair;
        }

    pub frame_kept : Promised t → Promised t'
    frame_kept inv m b = go (worker t' m).phase refl
      where
        kept : worker t' m ≡ worker t m → Promise t' m (worker t' m) (cell t' (worker t' m).ticket)
        kept e =
            subst (λ (v : Worker I). Promise t' m v (cell t' v.ticket)) (sym e)
            (subst (Promise t' m (worker t m)) (sym (framed_cell t t' f (worker t m).ticket))
            (bears t t' m (worker t m) (cell t (worker t m).ticket) (cell t (worker t m).ticket) (worker t m).phase (bears_framed m _ _ _) (inv m (framed_there t t' f m b))))

        go : (p : Phase) → (worker t' m).phase ≡ p → AtPhase t' m (worker t' m) (cell t' (worker t' m).ticket) p
        go Idle e = tt
        go (Engine x) e = tt
        go (Kind j) e = elim (framed_worker t t' f m j e) [
          | inl a ↦ subst (AtPhase t' m (worker t' m) (cell t' (worker t' m).ticket)) e (kept a)
          | inr (inl a) ↦ subst (AtRow t' m (worker t' m) (cell t' (worker t' m).ticket)) (sym a) tt
          | inr (inr a) ↦ subst (AtRow t' m (worker t' m) (cell t' (worker t' m).ticket)) (sym a) tt
        ]
