-- What holds of every table that calls with CRQ led to.
use Rattle.std.specs.Prelude.{◌≡◌, ℕ, ◌/◌, ◌≤◌, true, false, ◌⊎◌, Ok, Err, Result, refl}
use Rattle.std.proofs.Common.{sym, subst, subst₂, ◌∙◌, inl, inr, arith}
use Rattle.tickets.specs.declared.Ticket.{Ticket}
use Rattle.tickets.specs.declared.Epoch.{Epoch}
use Rattle.tickets.specs.declared.WorkerNo.{WorkerNo}
use Rattle.tickets.specs.Places.{round}
use Rattle.ring.specs.declared.table.Cell.{Cell}
use Rattle.ring.specs.declared.table.KindRow.{KindRow}
use Rattle.ring.specs.declared.table.Worker.{Worker}
use Rattle.ring.specs.declared.table.Value.TheVariants.{Item}
use Rattle.ring.specs.declared.table.KindRow.TheVariants.{E3, E4, E5, E6, E7, E8, E11, D2, D3, D4, D5, D6, D7, D8}
use Rattle.ring.specs.declared.table.Phase.TheVariants.{Kind}
use Rattle.ring.specs.declared.answers.Refusal.{Refusal}
use Rattle.ring.specs.Calls.{is_worker}
use Rattle.ring.specs.Laws.{Turned, then_table, EnqueueTurn, DequeueTurn, TurnOf, TouchesItsOwn}
use Rattle.crq.specs.Turns.{went_on, gave_up, did_place, did_take, refused, Promise, Came, turned_away, did_raise, did_shut, came_row}
use Rattle.ring.specs.Phases.{kind_side}
use Rattle.ring.specs.Table.{Table, worker, cell}
use Rattle.ring.specs.Turns.{Turn, is_token}
use Rattle.ring.proofs.Frames.{framed_there, framed_cell, framed_worker}
use Rattle.ring.proofs.Induction.{OfNew, KeptByTurns, KeptByFrames, by_turns, each_worker_after, each_cell_after}
use Rattle.ring.proofs.Lawful.{OfReached}
use Rattle.ring.proofs.New.{new_worker, new_cell}
use Rattle.ring.proofs.RowByRow.{GivesTurn, RowsTouchTheirOwn, row_of_turn, rows_touch_their_own}
use Rattle.ring.proofs.Writes.{cell_was, cell_here}
use Rattle.crq.specs.Rows.{crq_rows, crq_step}

module _ {I : Type 0} where
  -- a turn seen as what it came to
  pub turn_came : (t : Table I) (n : WorkerNo) (out : Turn I) (d : Turned crq_step t n out)
      → Came (round t.counters.cells (worker t n).ticket) t.counters.head (worker t n) (cell t (worker t n).ticket) d.standing (Ok out)
  turn_came t n out d =
      subst (Came (round t.counters.cells (worker t n).ticket) t.counters.head (worker t n) (cell t (worker t n).ticket) d.standing) (row_of_turn crq_rows t n out d)
      (came_row t.counters.head n (worker t n) (cell t (worker t n).ticket) (round t.counters.cells (worker t n).ticket) d.standing)

  -- law 1
  came_own : (c : Epoch) (head : ℕ) (w : Worker I) (s : Cell I) (k : KindRow) (out : Turn I) → Came c head w s k (Ok out) → TurnOf (kind_side k) w out
  came_own c head w s k out (went_on l p v (inl x) f g) = subst (λ y. TurnOf y w out) (sym x.0) (EnqueueTurn.went_on refl (record { ticket = refl; item = refl }) l refl x.1)
  came_own c head w s k out (went_on l p v (inr x) f g) = subst (λ y. TurnOf y w out) (sym x.0) (DequeueTurn.went_on refl (record { ticket = refl; item = refl }) l refl x.1)
  came_own c head w s k out (gave_up v x) = subst (λ y. TurnOf y w out) (sym x) (EnqueueTurn.gave_up refl (record { ticket = refl; item = refl }) refl)
  came_own c head w s E6 out (did_place i e p q) = EnqueueTurn.did_place i e refl refl
  came_own c head w s D3 out (turned_away v x) = DequeueTurn.did_pass refl (record { ticket = refl; item = refl }) refl
  came_own c head w s D5 out (did_take i e p q) = DequeueTurn.did_take i refl refl
  came_own c head w s D7 out (did_raise p q) = DequeueTurn.did_pass refl (record { ticket = refl; item = refl }) refl
  came_own c head w s D8 out (did_shut p q) = DequeueTurn.did_pass refl (record { ticket = refl; item = refl }) refl

  own_or : (c : Epoch) (head : ℕ) (w : Worker I) (s : Cell I) (k : KindRow) (x : Result (Turn I) Refusal) → Came c head w s k x → GivesTurn (TurnOf (kind_side k) w) x
  own_or c head w s k (Ok out) e = came_own c head w s k out e
  own_or c head w s k (Err r) refused = refl

  rows_own : RowsTouchTheirOwn {I = I} crq_rows
  rows_own head n w s c k = own_or c head w s k (crq_rows head n w s c k) (came_row head n w s c k)

  -- law 1, on every table
  pub touches : (t : Table I) → TouchesItsOwn crq_step t
  touches = rows_touch_their_own crq_rows rows_own

  -- the cell goes on from s to s'
  pub record Onward (s s' : Cell I) : Type 0 where
    pub rises : s.pair.epoch.0 ≤ s'.pair.epoch.0
    pub stays : (i : I) → s.value ≡ Item i → s'.pair.epoch.0 ≡ s.pair.epoch.0 → s'.value ≡ Item i
    pub no_token : is_token s.value ≡ false → is_token s'.value ≡ false

  onward_same : (s : Cell I) → Onward s s
  onward_same s = record { rises = omega arith; stays = λ i e _. e; no_token = λ e. e }

  pub came_onward : (c : Epoch) (head : ℕ) (w : Worker I) (s : Cell I) (k : KindRow) (out : Turn I) → Promise c.0 s w k → Came c head w s k (Ok out) → Onward s out.cell
  came_onward c head w s k out a (went_on l p v x f g) = onward_same s
  came_onward c head w s k out a (gave_up v x) = onward_same s
  came_onward c head w s E6 out p (did_place i e q f) =
      let n : w.pair.epoch.0 ≡ s.pair.epoch.0 = cc in
      record { rises = omega arith; stays = λ j v _. cc; no_token = λ _. refl }
  came_onward c head w s D3 out a (turned_away v x) = onward_same s
  came_onward c head w s D5 out p (did_take i e q f) =
      let n : w.pair.epoch.0 ≡ s.pair.epoch.0 = cc in
      record { rises = omega arith; stays = λ j v y. absurd (omega arith); no_token = λ _. refl }
  came_onward c head w s D7 out p (did_raise q f) =
      let n : w.pair.epoch.0 ≡ s.pair.epoch.0 = cc in
      record { rises = omega arith; stays = λ j v _. v; no_token = λ y. y }
  came_onward c head w s D8 out p (did_shut q f) = record { rises = omega arith; stays = λ j v _. v; no_token = λ y. y }

  promise_onward : (c : ℕ) (w : Worker I) (s s' : Cell I) → Onward s s' → (k : KindRow) → Promise c s w k → Promise c s' w k
  promise_onward c w s s' o E3 p = tt
  promise_onward c w s s' o E4 p = omega (arith, o.rises)
  promise_onward c w s s' o E5 p = omega (arith, o.rises)
  promise_onward c w s s' o E6 p = omega (arith, o.rises)
  promise_onward c w s s' o E7 p = tt
  promise_onward c w s s' o E8 p = tt
  promise_onward c w s s' o E11 p = tt
  promise_onward c w s s' o D2 p = tt
  promise_onward c w s s' o D3 p = omega (arith, o.rises)
  promise_onward c w s s' o D4 p = tt
  promise_onward c w s s' o D5 p = (
    omega (arith, o.rises),
    p.1,
    λ i v e. let f : s.pair.epoch.0 ≡ c = omega (arith, o.rises) in o.stays i (p.2 i v f) (e ∙ sym f),
  )
  promise_onward c w s s' o D6 p = tt
  promise_onward c w s s' o D7 p = p
  promise_onward c w s s' o D8 p = p

  -- the worker that took the turn
  pub came_promise : (c : Epoch) (head : ℕ) (w : Worker I) (s : Cell I) (k : KindRow) (out : Turn I) → Promise c.0 s w k → Came c head w s k (Ok out)
      → (l : KindRow) → out.worker.phase ≡ Kind l → (out.worker.ticket ≡ w.ticket) × Promise c.0 out.cell out.worker l
  came_promise c head w s k out a (went_on m p v x f g) l e = (refl, subst (Promise c.0 s out.worker) (cc) (f a))
  came_promise c head w s k out a (gave_up v x) l e = cc
  came_promise c head w s E6 out p (did_place i x y z) l e = cc
  came_promise c head w s D3 out a (turned_away v x) l e = cc
  came_promise c head w s D5 out p (did_take i x y z) l e = cc
  came_promise c head w s D7 out p (did_raise x y) l e = cc
  came_promise c head w s D8 out p (did_shut x y) l e = cc

  -- the worker w, whose ticket's cell is s in a ring of r cells, can rely on it
  abbrev Promised : ℕ → Cell I → Worker I → Type 0
  Promised r s w = (k : KindRow) → w.phase ≡ Kind k → Promise (w.ticket.0 / r) s w k

  pub record InOrder (t : Table I) : Type 0 where
    pub no_token : (k : Ticket) → is_token (cell t k).value ≡ false
    pub promised : (n : WorkerNo) → is_worker t n ≡ true → Promised t.counters.cells (cell t (worker t n).ticket) (worker t n)

  new_in_order : OfNew InOrder
  new_in_order r w h =
      record {
        no_token = λ k. cc (new_cell {I = I} r w k h.0);
        promised = λ n b k e. cc (new_worker {I = I} r w n b);
      }

  turns_keep : KeptByTurns crq_step InOrder
  turns_keep t n out r o o' d p =
      let a = turn_came t n out d in
      let q = p.promised n d.there d.standing d.inside in
      let v = came_onward (round t.counters.cells (worker t n).ticket) t.counters.head (worker t n) (cell t (worker t n).ticket) d.standing out q a in
      record {
        no_token = each_cell_after crq_step t o n out d (λ k c. is_token c.value ≡ false) (λ k e. v.no_token (p.no_token (worker t n).ticket)) (λ k h. p.no_token k);
        promised =
            each_worker_after crq_step t o n out d (λ m w. Promised t.counters.cells (cell (then_table t n out) w.ticket) w)
            (λ l e.
            let x = came_promise (round t.counters.cells (worker t n).ticket) t.counters.head (worker t n) (cell t (worker t n).ticket) d.standing out q a l e in
            subst (λ (k : Ticket). Promise (k.0 / t.counters.cells) (cell (then_table t n out) k) out.worker l) (sym x.0)
            (subst (λ (c : Cell I). Promise ((worker t n).ticket.0 / t.counters.cells) c out.worker l)
            (sym (cell_here t o (worker t n).ticket out.cell n out.worker (worker t n).ticket refl)) x.1))
            (λ m b h.
            each_cell_after crq_step t o n out d (λ k c. Promised t.counters.cells (cell t k) (worker t m) → Promised t.counters.cells c (worker t m))
            (λ k e f l g.
            promise_onward ((worker t m).ticket.0 / t.counters.cells) (worker t m) (cell t (worker t n).ticket) out.cell v l
            (subst (λ (c : Cell I). Promise ((worker t m).ticket.0 / t.counters.cells) c (worker t m) l) (cell_was t (worker t n).ticket k e) (f l g)))
            (λ k h f. f) (worker t m).ticket (p.promised m b));
      }

  frames_keep : KeptByFrames crq_step InOrder
  frames_keep t t' r o o' f p =
      record {
        no_token = λ k. let e = framed_cell t t' f k in let g = p.no_token k in cc;
        promised = λ n b k e. go n b k e (framed_worker t t' f n k e);
      }
    where
      go : (n : WorkerNo) → is_worker t' n ≡ true → (k : KindRow) → (worker t' n).phase ≡ Kind k → (worker t' n ≡ worker t n) ⊎ ((k ≡ E3) ⊎ (k ≡ D2))
          → Promise ((worker t' n).ticket.0 / t'.counters.cells) (cell t' (worker t' n).ticket) (worker t' n) k
      go n b k e (inl x) =
          subst (λ (w : Worker I). Promise (w.ticket.0 / t'.counters.cells) (cell t' w.ticket) w k) (sym x)
          (subst₂ (λ (r : ℕ) (c : Cell I). Promise ((worker t n).ticket.0 / r) c (worker t n) k) (sym f.ring) (sym (framed_cell t t' f (worker t n).ticket))
          (p.promised n (framed_there t t' f n b) k (cc)))
      go n b k e (inr (inl x)) = subst (Promise ((worker t' n).ticket.0 / t'.counters.cells) (cell t' (worker t' n).ticket) (worker t' n)) (sym x) tt
      go n b k e (inr (inr x)) = subst (Promise ((worker t' n).ticket.0 / t'.counters.cells) (cell t' (worker t' n).ticket) (worker t' n)) (sym x) tt

  pub in_order : OfReached crq_step InOrder
  in_order = by_turns crq_step (λ t _. touches t) InOrder new_in_order turns_keep frames_keep
