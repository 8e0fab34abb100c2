-- A turn of PRQ keeps the promise of its own worker.
use Rattle.std.specs.Prelude.{◌≡◌, ℕ, true, false, refl}
use Rattle.std.proofs.Common.{sym, ap, subst, ◌∙◌, inl, inr, arith}
use Rattle.tickets.specs.declared.WorkerNo.{WorkerNo}
use Rattle.tickets.specs.Places.{slot}
use Rattle.ring.specs.declared.table.Value.{Value}
use Rattle.ring.specs.declared.table.Cell.{Cell}
use Rattle.ring.specs.declared.table.KindRow.{KindRow}
use Rattle.ring.specs.declared.table.Value.TheVariants.{Empty, Token, Item}
use Rattle.ring.specs.declared.table.Side.TheVariants.{Dequeuing}
use Rattle.ring.specs.declared.table.KindRow.TheVariants.{E6, E7, E8, D4}
use Rattle.ring.specs.declared.table.Phase.TheVariants.{Kind}
use Rattle.ring.specs.Laws.{Turned, then_table}
use Rattle.ring.specs.Phases.{kind_side}
use Rattle.ring.specs.Table.{Table, worker, cell, occupied}
use Rattle.ring.specs.Turns.{Turn}
use Rattle.ring.proofs.Induction.{each_worker_after}
use Rattle.ring.proofs.Orderly.{drawn, Orderly}
use Rattle.prq.specs.Barred.{AtDoor, Unlocked, Quiet, Clear}
use Rattle.prq.specs.Rows.{prq_step}
use Rattle.prq.specs.AfterTurn.{ticket_kept, lock_after, row_here, clear_after}
use Rattle.prq.specs.Promises.{Saw, AtRow, Promise, Promised}
use Rattle.prq.specs.Turns.{e3, e4_out, e4_safe, e4_unsafe, e5_in, e5_out, e6_in, e6_out, e7_in, e7_out, e8_in, e8_out, e11_in, e11_out, d2, d3, d4_stale, d4_late, d4_empty, d4_token, d4_exact, d4_low, d5, d6_in, d6_out, d7_in, d7_out, d8_in, d8_out, DidTurn}

module _ {I : Type 0} where
  token_number : (n m : WorkerNo) → ◌≡◌ {A = Value I} (Token n) (Token m) → m.0 ≡ n.0
  token_number n m e = cc

  module _ (t : Table I) (o : Orderly t) (inv : Promised t) (n : WorkerNo) (out : Turn I) (d : Turned prq_step t n out) where
    abbrev r : ℕ
    r = t.counters.cells

    abbrev here : Cell I
    here = cell t (worker t n).ticket

    -- an enqueue that only has to place its item has left the cell safe
    unsafe_unlocked : here.pair.safe ≡ false → Unlocked t (slot r (worker t n).ticket) here.value
    unsafe_unlocked u m b p e v = let q = row_here t o inv n out d m b e E8 p v in cc

    -- nobody at the door finds the pair as it read it where the cell is not safe and has an item
    item_clear : here.pair.safe ≡ false → occupied here.value ≡ true → Clear t (worker t n).ticket here.pair
    item_clear u h m b a e l f = go a
      where
        go : AtDoor (worker t m).phase → ⊥
        go (inl p) = let z = ((row_here t o inv n out d m b e E6 p).2 f (cc)).0 in cc
        go (inr p) = let z = ((row_here t o inv n out d m b e E7 p).2 f).0 in cc

    -- the turn leaves the cell alone, and its worker is not about to place
    module _ (same : out.cell ≡ here) (aside : out.worker.phase ≡ Kind E8 → ⊥) where
      unlocked_still : Unlocked t (slot r (worker t n).ticket) here.value → Unlocked (then_table t n out) (slot r (worker t n).ticket) here.value
      unlocked_still u = subst (λ (c : Cell I). Unlocked (then_table t n out) (slot r (worker t n).ticket) c.value) same (lock_after t o inv n out d (slot r (worker t n).ticket) aside u)

      quiet_still : Quiet t (slot r (worker t n).ticket) here.value → Quiet (then_table t n out) (slot r (worker t n).ticket) here.value
      quiet_still q = (q.0, unlocked_still q.1)

      clear_still : kind_side d.standing ≡ Dequeuing → here.pair.safe ≡ false → Clear t (worker t n).ticket here.pair
          → Clear (then_table t n out) (worker t n).ticket here.pair
      clear_still x u c =
          subst (λ (z : Cell I). Clear (then_table t n out) (worker t n).ticket z.pair) same
          (clear_after t o inv n out d (worker t n).ticket refl (o.dequeues n d.there (ap drawn d.inside ∙ x)).1 u c)

  module _ (t : Table I) (o : Orderly t) (inv : Promised t) (n : WorkerNo) where
    saw : (out : Turn I) (d : Turned prq_step t n out) → kind_side d.standing ≡ Dequeuing → out.cell ≡ cell t (worker t n).ticket → out.worker.phase ≡ Kind D4
        → (x : Value I) → (cell t (worker t n).ticket).value ≡ x → Saw (then_table t n out) n out.worker (cell t (worker t n).ticket) x
    saw out d k same p Empty e = λ _. (ap occupied e, λ m b _ _ f. cc)
    saw out d k same p (Token y) e = tt
    saw out d k same p (Item i) e = (
      (
        λ _ m b _ _ f. cc,
        λ f u.
            let z : (cell t (worker t n).ticket).pair.safe ≡ false = sym (ap (λ q. q.safe) f) ∙ u in
            subst (λ y. Clear (then_table t n out) y (cell t (worker t n).ticket).pair) (sym (ticket_kept t o inv n out d D4 p))
            (clear_still t o inv n out d same (λ g. cc) k z (item_clear t o inv n out d z (ap occupied e))),
      ),
      λ _ _. e,
    )

    pub self_kept : (out : Turn I) (d : Turned prq_step t n out) (k : KindRow) → d.standing ≡ k → DidTurn t n k out → AtRow t n (worker t n) (cell t (worker t n).ticket) k
        → Promise (then_table t n out) n out.worker out.cell
    self_kept out d k z e3 a = omega arith
    self_kept out d k z e4_out a = tt
    self_kept out d k z (e4_safe x y e) a = (a, y, λ f u. cc)
    self_kept out d k z (e4_unsafe x y e) a =
        (a, y, λ f u. quiet_still t o inv n _ d refl (λ g. cc) (x, unsafe_unlocked t o inv n _ d (sym (ap (λ q. q.safe) f) ∙ u)))
    self_kept out d k z (e5_in x) a = (a.0, a.1, λ f u. quiet_still t o inv n _ d refl (λ g. cc) (a.2 f u))
    self_kept out d k z e5_out a = tt
    self_kept out d k z (e6_in x) a = (
      a.0,
      a.1,
      λ f. (
        refl,
        each_worker_after prq_step t o n _ d (λ m v. v.phase ≡ Kind E8 → slot t.counters.cells v.ticket ≡ slot t.counters.cells (worker t n).ticket → ◌≡◌ {A = Value I} (Token n) (Token m) → ⊥)
            (λ g _ _. cc) (λ m b h _ _ g. h (token_number n m g)),
      ),
    )
    self_kept out d k z e6_out a = tt
    self_kept out d k z (e7_in x) a = λ _. (refl, refl)
    self_kept out d k z e7_out a = tt
    self_kept out d k z (e8_in i x y) a = tt
    self_kept out d k z e8_out a = tt
    self_kept out d k z (e11_in x) a = tt
    self_kept out d k z e11_out a = tt
    self_kept out d k z d2 a = omega arith
    self_kept out d k z d3 a = (a, saw _ d (ap kind_side z) refl refl (cell t (worker t n).ticket).value refl)
    self_kept out d k z d4_stale a = tt
    self_kept out d k z (d4_late x y) a = tt
    self_kept out d k z (d4_empty v x y) a =
        (a.0, let f = ap (λ q. q.epoch.0) x in omega arith, λ f. quiet_still t o inv n _ d refl (λ g. cc) (subst (Saw t n (worker t n) (cell t (worker t n).ticket)) v a.1 f))
    self_kept out d k z (d4_token m v x y) a = (a.0, let f = ap (λ q. q.epoch.0) x in omega arith)
    self_kept out d k z (d4_exact i v x y) a = λ j h. ((subst (Saw t n (worker t n) (cell t (worker t n).ticket)) h a.1).1 x y, y)
    self_kept out d k z (d4_low i v x y) a =
        let b = (subst (Saw t n (worker t n) (cell t (worker t n).ticket)) v a.1).0 in (
          a.0,
          let f = ap (λ q. q.epoch.0) x in omega arith,
          (
            λ f. unlocked_still t o inv n _ d refl (λ g. cc) (b.0 f),
            λ f u. clear_still t o inv n _ d refl (λ g. cc) (ap kind_side z) (sym (ap (λ q. q.safe) f) ∙ u) (b.1 f u),
          ),
        )
    self_kept out d k z (d5 i v) a = tt
    self_kept out d k z (d6_in x) a = (a.0, a.1, λ f. (refl, λ m b _ _ e. cc))
    self_kept out d k z d6_out a = tt
    self_kept out d k z (d7_in x) a = tt
    self_kept out d k z d7_out a = tt
    self_kept out d k z (d8_in x) a = tt
    self_kept out d k z d8_out a = tt
