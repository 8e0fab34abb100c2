-- PRQ keeps the laws of a ring kind.
use Rattle.std.specs.Prelude.{◌≡◌, ℕ, ◌/◌, ◌<◌, ◌≤◌, true, false, not, ◌≢◌, refl}
use Rattle.std.proofs.Common.{sym, ap, subst, ◌∙◌, inl, inr, arith}
use Rattle.std.proofs.lemmas.Bool.{cases_eq, cases_lt, cases_Bool}
use Rattle.tickets.specs.declared.Ticket.{Ticket}
use Rattle.tickets.specs.declared.WorkerNo.{WorkerNo}
use Rattle.tickets.specs.Places.{round, slot}
use Rattle.ring.specs.declared.table.Cell.{Cell}
use Rattle.ring.specs.declared.table.KindRow.{KindRow}
use Rattle.ring.specs.declared.table.Value.TheVariants.{Empty, Token, Item}
use Rattle.ring.specs.declared.table.KindRow.TheVariants.{E8}
use Rattle.ring.specs.declared.table.Phase.TheVariants.{Engine, Kind}
use Rattle.ring.specs.declared.answers.Answer.TheVariants.{Placed, Taken, PassedOver}
use Rattle.ring.specs.Laws.{item_of, Turned, then_table, NeitherWay, PlacesFree, TakesHeld, LeavesItems, PassesBarred, Framed, StaysBarred}
use Rattle.ring.specs.Table.{Table, one_if, worker, cell, occupied, Held}
use Rattle.ring.specs.Turns.{Turn}
use Rattle.ring.proofs.Frames.{framed_cell}
use Rattle.ring.proofs.Induction.{each_worker_after}
use Rattle.ring.proofs.Orderly.{drawn, Orderly}
use Rattle.ring.proofs.Rounds.{later_round}
use Rattle.ring.proofs.Values.{free_item}
use Rattle.ring.proofs.Writes.{cell_was, cell_here, cell_else}
use Rattle.prq.specs.Barred.{AtDoor, Unlocked, Clear, Bars, prq_barred}
use Rattle.prq.specs.Rows.{prq_step}
use Rattle.prq.specs.AfterTurn.{own_promise, turn_seen, lock_after, not_locking, free_after, known_at_door, clear_after, unlocked_else, clear_else}
use Rattle.prq.specs.Effects.{plain, Effect, enters, looks, late, puts_token, empties, sets_item, takes_item, raises, lifts, marks, effect}
use Rattle.prq.specs.Framed.{unlocked_framed, clear_framed}
use Rattle.prq.specs.Keys.{key, key_epoch}
use Rattle.prq.specs.Promises.{AtRow, Promised}
use Rattle.prq.specs.Turns.{did_turn}

module _ {I : Type 0} where
  module _ (t : Table I) (n : WorkerNo) where
    abbrev s : Cell I
    s = cell t (worker t n).ticket

    abbrev Does : KindRow → Turn I → Type 0
    Does = Effect t.counters.head n (worker t n) s (round t.counters.cells (worker t n).ticket)

  -- a turn of the worker n
  module _ (t : Table I) (o : Orderly t) (inv : Promised t) (n : WorkerNo) (out : Turn I) (d : Turned prq_step t n out) where
    does : Does t n d.standing out
    does = effect _ _ _ _ _ _ _ (did_turn t n out d)

    -- the ticket's cell after its turn
    cell_after : (k : Ticket) → slot t.counters.cells k ≡ slot t.counters.cells (worker t n).ticket → cell (then_table t n out) k ≡ out.cell
    cell_after = cell_here t o (worker t n).ticket out.cell n out.worker

  module _ (t : Table I) (o : Orderly t) (inv : Promised t) where
    abbrev r : ℕ
    r = t.counters.cells

    module _ (n : WorkerNo) where
      placing : (i : I) (out : Turn I) (d : Turned prq_step t n out) → (worker t n).phase ≡ Kind E8 → (s t n).value ≡ Token n → AtRow t n (worker t n) (s t n) E8 → out.cell.value ≡ Item i → out.cell.pair ≡ (s t n).pair
          → (occupied (s t n).value ≡ false) × (prq_barred t (worker t n).ticket → ⊥) × Held (then_table t n out) (worker t n).ticket i
      placing i out d h f a v p = (
        ap occupied f,
        unbarred,
        (
          ap (λ (c : Cell I). c.value) (cell_after t o inv n out d (worker t n).ticket refl) ∙ v,
          ap (λ (c : Cell I). c.pair.epoch) (cell_after t o inv n out d (worker t n).ticket refl) ∙ (ap (λ q. q.epoch) p ∙ (λ x. record { 0 = (a f).1 x })),
        ),
      )
        where
          unbarred : prq_barred t (worker t n).ticket → ⊥
          unbarred (inl l) = let b = a f in omega arith
          unbarred (inr (inl q)) = q.1.1 n d.there h refl f
          unbarred (inr (inr q)) = let b = a f in cc

      places : (k : Ticket) (i : I) (j : KindRow) (out : Turn I) (d : Turned prq_step t n out) → (worker t n).phase ≡ Kind j → Does t n j out → AtRow t n (worker t n) (s t n) j → out.answer ≡ Placed k i
          → (occupied (cell t k).value ≡ false) × (prq_barred t k → ⊥) × Held (then_table t n out) k i
      places k i j out d h (sets_item i' f g) a e =
          let q : (worker t n).ticket ≡ k = cc in
          let z : i' ≡ i = cc in
          subst (λ y. (occupied (cell t y).value ≡ false) × (prq_barred t y → ⊥) × Held (then_table t n out) y i) q (placing i _ d h f a (ap Item z) refl)
      places k i j out d h (enters _ v f g x) a e = cc
      places k i j out d h (looks _ v f) a e = cc
      places k i j out d h (late f) a e = cc
      places k i j out d h (puts_token f) a e = cc
      places k i j out d h (empties _ p f g) a e = cc
      places k i j out d h (takes_item i' f) a e = cc
      places k i j out d h (raises f) a e = cc
      places k i j out d h (lifts f) a e = cc
      places k i j out d h (marks f) a e = cc

      takes : (k : Ticket) (i : I) (j : KindRow) (out : Turn I) → Does t n j out → AtRow t n (worker t n) (s t n) j → out.answer ≡ Taken k i → Held t k i × (out.cell.value ≡ Empty)
      takes k i j out (takes_item i' f) a e =
          let b = a i' f in
          let z : i' ≡ i = cc in
          let q : (worker t n).ticket ≡ k = cc in
          (subst (λ y. Held t y i) q (b.0 ∙ ap Item z, λ x. record { 0 = b.1 x }), refl)
      takes k i j out (enters _ v f g x) a e = cc
      takes k i j out (looks _ v f) a e = cc
      takes k i j out (late f) a e = cc
      takes k i j out (puts_token f) a e = cc
      takes k i j out (empties _ p f g) a e = cc
      takes k i j out (sets_item i' f g) a e = cc
      takes k i j out (raises f) a e = cc
      takes k i j out (lifts f) a e = cc
      takes k i j out (marks f) a e = cc

      leaves : (j : KindRow) (out : Turn I) → Does t n j out → AtRow t n (worker t n) (s t n) j → NeitherWay out.answer
          → (item_of out.cell.value ≡ item_of (s t n).value) × (occupied (s t n).value ≡ true → out.cell.pair.epoch ≡ (s t n).pair.epoch)
      leaves j out (enters _ v f g x) a e = (refl, λ _. refl)
      leaves j out (looks _ v f) a e = (refl, λ _. refl)
      leaves j out (late f) a e = (refl, λ _. refl)
      leaves j out (puts_token f) a e = (sym (free_item (s t n).value f), λ _. refl)
      leaves j out (empties _ p f g) a e = (sym (free_item (s t n).value f), λ _. refl)
      leaves j out (sets_item i f g) a e = absurd (e.0 _ _ refl)
      leaves j out (takes_item i f) a e = absurd (e.1 _ _ refl)
      leaves j out (raises f) a e = (refl, λ z. let q = (a.2 f).0 in cc)
      leaves j out (lifts f) a e = (refl, λ z. let q = (a.2 f).0 in cc)
      leaves j out (marks f) a e = (refl, λ _. refl)

    -- law 2
    pub places_free_lem : PlacesFree prq_step Held prq_barred t
    places_free_lem n out k i d e = places n k i d.standing out d d.inside (does t o inv n out d) (own_promise t o inv n out d) e

    -- law 3
    pub takes_held_lem : TakesHeld prq_step Held prq_barred t
    takes_held_lem n out k i d e = takes n k i d.standing out (does t o inv n out d) (own_promise t o inv n out d) e

    -- law 4
    pub leaves_items_lem : LeavesItems prq_step Held prq_barred t
    leaves_items_lem n out d e = leaves n d.standing out (does t o inv n out d) (own_promise t o inv n out d) e

    module _ (n : WorkerNo) where
      passing : (k : Ticket) (out : Turn I) (d : Turned prq_step t n out) → out.answer ≡ PassedOver k → out.answer ≡ PassedOver (worker t n).ticket
          → ((i : I) → Held t (worker t n).ticket i → ⊥) → Bars (then_table t n out) (worker t n).ticket out.cell → ((i : I) → Held t k i → ⊥) × prq_barred (then_table t n out) k
      passing k out d e f h b =
          let q : (worker t n).ticket ≡ k = cc in
          subst (λ y. ((i : I) → Held t y i → ⊥) × prq_barred (then_table t n out) y) q
          (h, subst (Bars (then_table t n out) (worker t n).ticket) (sym (cell_after t o inv n out d (worker t n).ticket refl)) b)

      -- once the cell is marked, nobody at the door with the ticket or an earlier one finds the pair as it read it
      marked_clear : (out : Turn I) (d : Turned prq_step t n out) → (worker t n).ticket.0 < t.counters.head → (AtDoor out.worker.phase → ⊥)
          → out.cell.pair ≡ record { safe = false; epoch = (s t n).pair.epoch } → ((s t n).pair.safe ≡ false → Clear t (worker t n).ticket (s t n).pair)
          → Clear (then_table t n out) (worker t n).ticket out.cell.pair
      marked_clear out d l h p c =
          elim (cases_Bool (s t n).pair.safe) [
            | inr u ↦ clear_after t o inv n out d (worker t n).ticket refl l u (c u)
            | inl u ↦
                each_worker_after prq_step t o n out d
                (λ m v. AtDoor v.phase → slot r v.ticket ≡ slot r (worker t n).ticket → v.ticket.0 ≤ (worker t n).ticket.0 → v.pair ≢ out.cell.pair) (λ a _ _ _. h a)
                (λ m b _ a e _ f.
                let x = known_at_door t o inv n out d m b e a in
                let y = ap key (f ∙ p) in
                let z = ap (λ g. one_if (not g)) u in
                omega arith)
          ]

      passes : (k : Ticket) (j : KindRow) (out : Turn I) (d : Turned prq_step t n out) → (worker t n).phase ≡ Kind j → Does t n j out → AtRow t n (worker t n) (s t n) j → out.answer ≡ PassedOver k
          → ((i : I) → Held t k i → ⊥) × prq_barred (then_table t n out) k
      passes k j out d h (late f) a e = passing k _ d e refl (λ i g. let x = ap (λ y. y.0) g.1 in omega arith) (inl f)
      passes k j out d h (lifts f) a e =
          let q = a.2 f in
          passing k _ d e refl (λ i g. let x = ap occupied g.0 in cc)
          (inr (inl (refl, (q.0, lock_after t o inv n _ d (slot r (worker t n).ticket) (λ z. cc) q.1))))
      passes k j out d h (marks f) a e =
          let l = a.1 in
          let y = ap (λ z. z.epoch.0) f in
          let g = (o.dequeues n d.there (ap drawn h)).1 in
          passing k _ d e refl (λ i z. let x = ap (λ q. q.0) z.1 in omega arith)
          (inr (inr (g, refl, marked_clear _ d g (plain (Engine _) tt).1 refl (λ u. a.2.1 f (ap (λ z. z.safe) f ∙ u)))))
      passes k j out d h (enters _ v f g x) a e = cc
      passes k j out d h (looks _ v f) a e = cc
      passes k j out d h (puts_token f) a e = cc
      passes k j out d h (empties _ p f g) a e = cc
      passes k j out d h (sets_item i f g) a e = cc
      passes k j out d h (takes_item i f) a e = cc
      passes k j out d h (raises f) a e = cc

    -- law 5
    pub passes_barred_lem : PassesBarred prq_step Held prq_barred t
    passes_barred_lem n out k d e = passes n k d.standing out d d.inside (does t o inv n out d) (own_promise t o inv n out d) e

    module _ (n : WorkerNo) (out : Turn I) (d : Turned prq_step t n out) where
      epoch_after : (s t n).pair.epoch.0 ≤ out.cell.pair.epoch.0
      epoch_after = key_epoch (s t n).pair out.cell.pair (turn_seen t o inv n out d).pair.rises

      bars_here : (k : Ticket) → slot r k ≡ slot r (worker t n).ticket → Bars t k (s t n) → Bars (then_table t n out) k out.cell
      bars_here k e (inl l) = let z = epoch_after in inl (omega arith)
      bars_here k e (inr (inl (x, q))) =
          let z = epoch_after in
          elim (cases_lt (s t n).pair.epoch.0 out.cell.pair.epoch.0) [
            | inl l ↦ inl (omega arith)
            | inr l ↦ inr (inl (omega arith, (free_after t o inv n out d (rw e at q), lock_after t o inv n out d (slot r k) (not_locking t o inv n out d l) q.1)))
          ]
      bars_here k e (inr (inr (h, u, c))) =
          elim (cases_Bool out.cell.pair.safe) [
            | inr f ↦ inr (inr (h, f, clear_after t o inv n out d k e h u c))
            | inl f ↦
                let g = (turn_seen t o inv n out d).pair.safe u f in
                elim (cases_lt k.0 (worker t n).ticket.0) [
                  | inl l ↦ inl (let z = later_round r k (worker t n).ticket e l in omega arith)
                  | inr l ↦ absurd (c n d.there g.0 (sym e) l g.1)
                ]
          ]

      bars_else : (k : Ticket) (c : Cell I) → (slot r k ≢ slot r (worker t n).ticket) → Bars t k c → Bars (then_table t n out) k c
      bars_else k c h (inl l) = inl l
      bars_else k c h (inr (inl (x, q))) = inr (inl (x, (q.0, unlocked_else t o inv n out d k c.value h q.1)))
      bars_else k c h (inr (inr (l, u, x))) = inr (inr (l, u, clear_else t o inv n out d k c.pair h x))

      turn_barred : (k : Ticket) → prq_barred t k → prq_barred (then_table t n out) k
      turn_barred k b =
          elim (cases_eq (slot r k) (slot r (worker t n).ticket)) [
            | inl e ↦ subst (Bars (then_table t n out) k) (sym (cell_after t o inv n out d k e)) (bars_here k e (subst (Bars t k) (cell_was t (worker t n).ticket k e) b))
            | inr h ↦ subst (Bars (then_table t n out) k) (sym (cell_else t o (worker t n).ticket out.cell n out.worker k h)) (bars_else k (cell t k) h b)
          ]

  frame_bars : (t t' : Table I) (k : Ticket) (c : Cell I) → Framed t t' → Bars t k c → Bars t' k c
  frame_bars t t' k c f (inl l) = let z = ap (λ r. k.0 / r) f.ring in inl (omega arith)
  frame_bars t t' k c f (inr (inl (x, q))) =
      let z = ap (λ r. k.0 / r) f.ring in
      inr (inl (omega arith, (q.0, unlocked_framed t t' f (slot t'.counters.cells k) c.value (subst (λ r. Unlocked t (slot r k) c.value) (sym f.ring) q.1))))
  frame_bars t t' k c f (inr (inr (l, u, x))) = inr (inr (omega (arith, f.head), u, clear_framed t t' f k c.pair x))

  frame_barred : (t t' : Table I) (k : Ticket) → Framed t t' → prq_barred t k → prq_barred t' k
  frame_barred t t' k f b = subst (Bars t' k) (sym (framed_cell t t' f k)) (frame_bars t t' k (cell t k) f b)

  -- law 6
  pub stays_barred_lem : (t : Table I) → Orderly t → Promised t → StaysBarred prq_step prq_barred t
  stays_barred_lem t o inv = (λ n out k d. turn_barred t o inv n out d k, λ t' k f. frame_barred t t' k f, λ n out d. epoch_after t o inv n out d)
