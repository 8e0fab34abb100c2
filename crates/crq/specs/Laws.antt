-- The laws of a ring kind, of CRQ.
use Rattle.std.specs.Prelude.{◌≡◌, ℕ, ◌/◌, ◌<◌, ◌≤◌, true, false, ◌⊎◌, Ok, ◌≢◌, refl}
use Rattle.std.proofs.Common.{sym, ap, subst, subst₂, ◌∙◌, inl, inr, arith}
use Rattle.std.proofs.Math.Path.{subst₃}
use Rattle.std.proofs.lemmas.Bool.{cases_eq, cases_lt}
use Rattle.tickets.specs.declared.Ticket.{Ticket}
use Rattle.tickets.specs.declared.WorkerNo.{WorkerNo}
use Rattle.tickets.specs.Places.{round, slot}
use Rattle.ring.specs.declared.table.Pair.{Pair}
use Rattle.ring.specs.declared.table.Cell.{Cell}
use Rattle.ring.specs.declared.table.KindRow.{KindRow}
use Rattle.ring.specs.declared.table.Worker.{Worker}
use Rattle.ring.specs.declared.table.Value.TheVariants.{Empty, Item}
use Rattle.ring.specs.declared.table.KindRow.TheVariants.{E3, E6, D2, D3, D5, D7, D8}
use Rattle.ring.specs.declared.table.Phase.TheVariants.{Kind}
use Rattle.ring.specs.declared.answers.Answer.TheVariants.{Placed, Taken, PassedOver}
use Rattle.ring.specs.Calls.{is_worker}
use Rattle.ring.specs.Laws.{item_of, Reached, then_table, NeitherWay, PlacesFree, TakesHeld, LeavesItems, PassesBarred, Framed, StaysBarred}
use Rattle.crq.specs.Turns.{went_on, gave_up, did_place, did_take, Came, turned_away, did_raise, did_shut}
use Rattle.ring.specs.Table.{Table, worker, cell, occupied, Held}
use Rattle.ring.specs.Turns.{Turn}
use Rattle.ring.proofs.Frames.{framed_there, framed_cell, framed_worker}
use Rattle.ring.proofs.Induction.{reached_orderly}
use Rattle.ring.proofs.Orderly.{drawn, Orderly}
use Rattle.ring.proofs.Rounds.{later_round}
use Rattle.ring.proofs.Writes.{each_put, cell_was, cell_here, cell_else}
use Rattle.crq.specs.Order.{touches, turn_came, came_onward, came_promise, InOrder, in_order}
use Rattle.crq.specs.Barred.{AboutToPlace, clear, Shut, crq_barred}
use Rattle.crq.specs.Rows.{crq_step}

module _ {I : Type 0} where
  -- what the worker's turn came to
  abbrev Turning : Table I → WorkerNo → KindRow → Turn I → Type 0
  Turning t n x out = Came (round t.counters.cells (worker t n).ticket) t.counters.head (worker t n) (cell t (worker t n).ticket) x (Ok out)

  orderly : (t : Table I) → Reached crq_step t → Orderly t
  orderly = reached_orderly crq_step (λ t _. touches t)

  module _ (t : Table I) (o : Orderly t) (p : InOrder t) (n : WorkerNo) (there : is_worker t n ≡ true) where
    -- the cell of the worker's ticket after the turn
    here : (out : Turn I) → cell (then_table t n out) (worker t n).ticket ≡ out.cell
    here out = cell_here t o (worker t n).ticket out.cell n out.worker (worker t n).ticket refl

    placed_free : (x : KindRow) (out : Turn I) (k : Ticket) (i : I) → (worker t n).phase ≡ Kind x → Turning t n x out → out.answer ≡ Placed k i
        → (occupied (cell t k).value ≡ false) × (crq_barred t k → ⊥) × Held (then_table t n out) k i
    placed_free x out k i h (went_on l u v y f g) a = cc
    placed_free x out k i h (gave_up v y) a = cc
    placed_free E6 out k i h (did_place j e q f) a =
        subst₂ (λ (k : Ticket) (i : I). (occupied (cell t k).value ≡ false) × (crq_barred t k → ⊥) × Held (then_table t n out) k i) (cc) (cc)
        (ap occupied f, unbarred, subst (λ (c : Cell I). (c.value ≡ Item j) × (c.pair.epoch ≡ round t.counters.cells (worker t n).ticket)) (sym (here out)) (refl, refl))
      where
        unbarred : crq_barred t (worker t n).ticket → ⊥
        unbarred (inl b) = let m = p.promised n there E6 h in let e : (worker t n).pair.epoch.0 ≡ (cell t (worker t n).ticket).pair.epoch.0 = cc in omega arith
        unbarred (inr b) = elim b.guarded [ inl z ↦ cc | inr z ↦ z n there (record { standing = h; same_cell = refl; not_later = omega arith; read = q }) ]
    placed_free D3 out k i h (turned_away v y) a = cc
    placed_free D5 out k i h (did_take j e q f) a = cc
    placed_free D7 out k i h (did_raise q f) a = cc
    placed_free D8 out k i h (did_shut q f) a = cc

    taken_held : (x : KindRow) (out : Turn I) (k : Ticket) (i : I) → (worker t n).phase ≡ Kind x → Turning t n x out → out.answer ≡ Taken k i → Held t k i × (out.cell.value ≡ Empty)
    taken_held x out k i h (went_on l u v y f g) a = cc
    taken_held x out k i h (gave_up v y) a = cc
    taken_held E6 out k i h (did_place j e q f) a = cc
    taken_held D3 out k i h (turned_away v y) a = cc
    taken_held D5 out k i h (did_take j e q f) a =
        let m = p.promised n there D5 h in
        let z : (cell t (worker t n).ticket).pair.epoch.0 ≡ (worker t n).ticket.0 / t.counters.cells = cc (m.1, q) in
        subst₂ (λ (k : Ticket) (i : I). Held t k i × (out.cell.value ≡ Empty)) (cc) (cc) ((m.2 j e z, λ y. record { 0 = z y }), refl)
    taken_held D7 out k i h (did_raise q f) a = cc
    taken_held D8 out k i h (did_shut q f) a = cc

    items_left : (x : KindRow) (out : Turn I) → Turning t n x out → NeitherWay out.answer
        → (item_of out.cell.value ≡ item_of (cell t (worker t n).ticket).value)
        × (occupied (cell t (worker t n).ticket).value ≡ true → out.cell.pair.epoch ≡ (cell t (worker t n).ticket).pair.epoch)
    items_left x out (went_on l u v y f g) a = (refl, λ _. refl)
    items_left x out (gave_up v y) a = (refl, λ _. refl)
    items_left E6 out (did_place j e q f) a = absurd (a.0 (worker t n).ticket j refl)
    items_left D3 out (turned_away v y) a = (refl, λ _. refl)
    items_left D5 out (did_take j e q f) a = absurd (a.1 (worker t n).ticket j refl)
    items_left D7 out (did_raise q f) a = (refl, λ z. cc)
    items_left D8 out (did_shut q f) a = (refl, λ _. refl)

    abbrev PassedRightly : Turn I → Ticket → Type 0
    PassedRightly out k = ((i : I) → Held t k i → ⊥) × crq_barred (then_table t n out) k

    passed_barred : (x : KindRow) (out : Turn I) (k : Ticket) → (worker t n).phase ≡ Kind x → Turning t n x out → out.answer ≡ PassedOver k → PassedRightly out k
    passed_barred x out k h (went_on l u v y f g) a = cc
    passed_barred x out k h (gave_up v y) a = cc
    passed_barred E6 out k h (did_place j e q f) a = cc
    passed_barred D3 out k h (turned_away v y) a =
        let m = p.promised n there D3 h in
        let z : (round t.counters.cells (worker t n).ticket).0 < (cell t (worker t n).ticket).pair.epoch.0 =
        elim y [ inl u ↦ omega arith | inr u ↦ cc (p.no_token (worker t n).ticket) ]
        in
        let b : (worker t n).ticket ≡ k = cc in
        subst (PassedRightly out) b (λ i g. omega (arith, ap (λ u. u.0) g.1), inl (omega (arith, ap (λ u. u.pair.epoch.0) (here out))))
    passed_barred D5 out k h (did_take j e q f) a = cc
    passed_barred D7 out k h (did_raise q f) a =
        let b : (worker t n).ticket ≡ k = cc in
        subst (PassedRightly out) b (λ i g. cc g.0, inl (omega (arith, ap (λ u. u.pair.epoch.0) (here out))))
    passed_barred D8 out k h (did_shut q f) a =
        let m = p.promised n there D8 h in
        let z : (worker t n).pair.epoch.0 ≡ (cell t (worker t n).ticket).pair.epoch.0 = cc in
        let b : (worker t n).ticket ≡ k = cc in
        subst (PassedRightly out) b (
          λ i g. omega (arith, ap (λ u. u.0) g.1),
          inr (
              record {
                passed = (o.dequeues n there (ap drawn h)).1;
                unsafe = ap (λ u. u.pair.safe) (here out);
                guarded = inl (ap (λ u. occupied u.value) (here out) ∙ f);
              }
              ),
        )

    -- law 6: nobody comes to be about to place in a clear cell whose pair is p, where the turn's worker does not
    clear_after : (out : Turn I) (k : Ticket) (q : Pair) → (cell (then_table t n out) k).pair ≡ q → (AboutToPlace t.counters.cells k q out.worker → ⊥)
        → ((m : WorkerNo) → is_worker t m ≡ true → AboutToPlace t.counters.cells k q (worker t m) → ⊥) → clear (then_table t n out) k
    clear_after out k q e self others =
        subst (λ (u : Pair). (m : WorkerNo) → is_worker t m ≡ true → AboutToPlace t.counters.cells k u (worker (then_table t n out) m) → ⊥) (sym e)
        (each_put t o t.counters (then_table t n out).cells n there out.worker (λ _ v. AboutToPlace t.counters.cells k q v → ⊥) self (λ m b _. others m b))

    -- the cell of the ticket k is as it was
    shut_kept : (out : Turn I) (k : Ticket) → cell (then_table t n out) k ≡ cell t k → Shut t k → (AboutToPlace t.counters.cells k (cell t k).pair out.worker → ⊥) → Shut (then_table t n out) k
    shut_kept out k f b self =
        record {
          passed = b.passed;
          unsafe = ap (λ u. u.pair.safe) f ∙ b.unsafe;
          guarded = elim b.guarded [ inl z ↦ inl (ap (λ u. occupied u.value) f ∙ z) | inr z ↦ inr (clear_after out k (cell t k).pair (ap (λ u. u.pair) f) self z) ];
        }

    -- where the ticket k has the worker's cell
    module _ (k : Ticket) (same : slot t.counters.cells k ≡ slot t.counters.cells (worker t n).ticket) where
      was : cell t k ≡ cell t (worker t n).ticket
      was = cell_was t (worker t n).ticket k same

      now : (out : Turn I) → cell (then_table t n out) k ≡ out.cell
      now out = cell_here t o (worker t n).ticket out.cell n out.worker k same

      -- the cell is as it was
      shut_still : (out : Turn I) → out.cell ≡ cell t (worker t n).ticket → Shut t k → (AboutToPlace t.counters.cells k (cell t k).pair out.worker → ⊥) → Shut (then_table t n out) k
      shut_still out e = shut_kept out k (now out ∙ (e ∙ sym was))

      -- the epoch grows and the cell's safety stays: who is about to place has read an earlier epoch
      shut_raised : (out : Turn I) → (cell t (worker t n).ticket).pair.epoch.0 < out.cell.pair.epoch.0 → out.cell.pair.safe ≡ (cell t (worker t n).ticket).pair.safe
          → (out.worker.phase ≢ Kind E6) → Shut t k → Shut (then_table t n out) k
      shut_raised out e f g b =
          record {
            passed = b.passed;
            unsafe = ap (λ u. u.pair.safe) (now out) ∙ (f ∙ (ap (λ u. u.pair.safe) (sym was) ∙ b.unsafe));
            guarded =
                inr (
                clear_after out k out.cell.pair (ap (λ u. u.pair) (now out)) (λ a. g a.standing)
                (λ m c a.
                let z = (p.promised m c E6 a.standing).0 in
                let y = ap (λ u. u.pair.epoch.0) (cell_was t (worker t n).ticket (worker t m).ticket (a.same_cell ∙ same)) in
                let x = ap (λ u. u.epoch.0) a.read in
                omega arith)
                );
          }

      shut_stays : (x : KindRow) (out : Turn I) → (worker t n).phase ≡ Kind x → Turning t n x out → Shut t k → crq_barred (then_table t n out) k
      shut_stays x out h (went_on l u v y f g) b =
          inr (
          shut_still out refl b
          (λ a.
          elim (g (cc a.standing)) [
            | inl z ↦ cc (a.read, b.unsafe)
            | inr z ↦ omega (arith, a.not_later, b.passed)
          ])
          )
      shut_stays x out h (gave_up v y) b = inr (shut_still out refl b (λ a. cc a.standing))
      shut_stays E6 out h (did_place j e q f) b =
          elim (cases_lt k.0 (worker t n).ticket.0) [
            | inl z ↦ let y = later_round t.counters.cells k (worker t n).ticket same z in inl (omega (arith, ap (λ u. u.pair.epoch.0) (now out)))
            | inr z ↦ elim b.guarded [
              | inl y ↦ cc (was)
              | inr y ↦ absurd (y n there (record { standing = h; same_cell = sym same; not_later = z; read = q ∙ ap (λ u. u.pair) (sym was) }))
            ]
          ]
      shut_stays D3 out h (turned_away v y) b = inr (shut_still out refl b (λ a. cc a.standing))
      shut_stays D5 out h (did_take j e q f) b =
          let m = (p.promised n there D5 h).1 in
          let z : (worker t n).pair.epoch.0 ≡ (cell t (worker t n).ticket).pair.epoch.0 = cc in
          inr (shut_raised out (omega arith) refl (λ a. cc) b)
      shut_stays D7 out h (did_raise q f) b =
          let m = p.promised n there D7 h in
          let z : (worker t n).pair.epoch.0 ≡ (cell t (worker t n).ticket).pair.epoch.0 = cc in
          inr (shut_raised out (omega arith) refl (λ a. cc) b)
      shut_stays D8 out h (did_shut q f) b =
          inr (
          record {
            passed = b.passed;
            unsafe = ap (λ u. u.pair.safe) (now out);
            guarded = inl (ap (λ u. occupied u.value) (now out) ∙ f);
          }
          )

    barred_stays : (x : KindRow) (out : Turn I) (k : Ticket) → (worker t n).phase ≡ Kind x → Turning t n x out → crq_barred t k → crq_barred (then_table t n out) k
    barred_stays x out k h a b = go (cases_eq (slot t.counters.cells k) (slot t.counters.cells (worker t n).ticket)) b
      where
        rises : (cell t (worker t n).ticket).pair.epoch.0 ≤ out.cell.pair.epoch.0
        rises =
            (came_onward (round t.counters.cells (worker t n).ticket) t.counters.head (worker t n) (cell t (worker t n).ticket) x out (p.promised n there x h) a).rises

        kept : out.worker.phase ≡ Kind E6 → out.worker.ticket ≡ (worker t n).ticket
        kept e =
            (came_promise (round t.counters.cells (worker t n).ticket) t.counters.head (worker t n) (cell t (worker t n).ticket) x out (p.promised n there x h) a E6 e).0

        go : (slot t.counters.cells k ≡ slot t.counters.cells (worker t n).ticket) ⊎ (slot t.counters.cells k ≢ slot t.counters.cells (worker t n).ticket)
            → crq_barred t k → crq_barred (then_table t n out) k
        go (inl e) (inl z) = inl (omega (arith, rises, ap (λ u. u.pair.epoch.0) (now k e out), ap (λ u. u.pair.epoch.0) (was k e)))
        go (inl e) (inr z) = shut_stays k e x out h a z
        go (inr e) (inl z) = inl (omega (arith, ap (λ u. u.pair.epoch.0) (cell_else t o (worker t n).ticket out.cell n out.worker k e)))
        go (inr e) (inr z) =
            inr (
            shut_kept out k (cell_else t o (worker t n).ticket out.cell n out.worker k e) z
            (λ c. e (sym c.same_cell ∙ ap (slot t.counters.cells) (kept c.standing)))
            )

  -- law 6, of a frame change, on all tables
  frame_barred : (t t' : Table I) (k : Ticket) → Framed t t' → crq_barred t k → crq_barred t' k
  frame_barred t t' k f (inl b) = inl (subst₂ (λ (r : ℕ) (c : Cell I). (round r k).0 < c.pair.epoch.0) (sym f.ring) (sym (framed_cell t t' f k)) b)
  frame_barred t t' k f (inr b) =
      let e = framed_cell t t' f k in
      inr (
      record {
        passed = let h = b.passed in omega (arith, f.head);
        unsafe = ap (λ u. u.pair.safe) e ∙ b.unsafe;
        guarded = elim b.guarded [ inl z ↦ inl (ap (λ u. occupied u.value) e ∙ z) | inr z ↦ inr (λ m c a. go m c a z (framed_worker t t' f m E6 a.standing)) ];
      }
      )
    where
      go : (m : WorkerNo) → is_worker t' m ≡ true → AboutToPlace t'.counters.cells k (cell t' k).pair (worker t' m) → clear t k
          → (worker t' m ≡ worker t m) ⊎ ((E6 ≡ E3) ⊎ (E6 ≡ D2)) → ⊥
      go m c a z (inl x) =
          z m (framed_there t t' f m c)
          (subst₃ (λ (r : ℕ) (u : Cell I) (w : Worker I). AboutToPlace r k u.pair w) f.ring (framed_cell t t' f k) x a)
      go m c a z (inr (inl x)) = cc
      go m c a z (inr (inr x)) = cc

  -- the laws
  pub places_free_lem : (t : Table I) → Reached crq_step t → PlacesFree crq_step Held crq_barred t
  places_free_lem t r n out k i d a = placed_free t (orderly t r) (in_order t r) n d.there d.standing out k i d.inside (turn_came t n out d) a

  pub takes_held_lem : (t : Table I) → Reached crq_step t → TakesHeld crq_step Held crq_barred t
  takes_held_lem t r n out k i d a = taken_held t (orderly t r) (in_order t r) n d.there d.standing out k i d.inside (turn_came t n out d) a

  pub leaves_items_lem : (t : Table I) → Reached crq_step t → LeavesItems crq_step Held crq_barred t
  leaves_items_lem t r n out d a = items_left t (orderly t r) (in_order t r) n d.there d.standing out (turn_came t n out d) a

  pub passes_barred_lem : (t : Table I) → Reached crq_step t → PassesBarred crq_step Held crq_barred t
  passes_barred_lem t r n out k d a = passed_barred t (orderly t r) (in_order t r) n d.there d.standing out k d.inside (turn_came t n out d) a

  pub stays_barred_lem : (t : Table I) → Reached crq_step t → StaysBarred crq_step crq_barred t
  stays_barred_lem t r = (
    λ n out k d b. barred_stays t (orderly t r) (in_order t r) n d.there d.standing out k d.inside (turn_came t n out d) b,
    λ t' k f b. frame_barred t t' k f b,
    λ n out d.
        (came_onward (round t.counters.cells (worker t n).ticket) t.counters.head (worker t n) (cell t (worker t n).ticket) d.standing out
        ((in_order t r).promised n d.there d.standing d.inside) (turn_came t n out d)).rises,
  )
