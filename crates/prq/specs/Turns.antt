-- What a turn of PRQ does, row by row.
use Rattle.std.specs.Prelude.{◌≡◌, ℕ, ◌<◌, ◌≤◌, true, false, cond, ◌&&◌, ◌||◌, Some, None, Ok, Err, Option, Result, ◌==◌, nat_le, nat_lt, refl}
use Rattle.std.proofs.Common.{subst, arith}
use Rattle.std.proofs.lemmas.Bool.{leb-true, leb-false, ltb-true, ltb-false, eqb-true, eqb-false, and_parts, or_parts, cond_both}
use Rattle.tickets.specs.declared.Epoch.{Epoch}
use Rattle.tickets.specs.declared.WorkerNo.{WorkerNo}
use Rattle.tickets.specs.Places.{round}
use Rattle.ring.specs.declared.table.Value.{Value}
use Rattle.ring.specs.declared.table.Cell.{Cell}
use Rattle.ring.specs.declared.table.KindRow.{KindRow}
use Rattle.ring.specs.declared.table.Phase.{Phase}
use Rattle.ring.specs.declared.table.Worker.{Worker}
use Rattle.ring.specs.declared.table.Value.TheVariants.{Empty, Token, Item}
use Rattle.ring.specs.declared.table.EngineRow.TheVariants.{E9, D9}
use Rattle.ring.specs.declared.table.KindRow.TheVariants.{E3, E4, E5, E6, E7, E8, E11, D2, D3, D4, D5, D6, D7, D8}
use Rattle.ring.specs.declared.table.Phase.TheVariants.{Engine, Kind}
use Rattle.ring.specs.declared.answers.Refusal.{Refusal}
use Rattle.ring.specs.declared.answers.Answer.TheVariants.{Working, Placed, Taken, PassedOver}
use Rattle.ring.specs.Fields.{with_phase, with_pair, with_value, finished, with_cell_value, with_cell_pair}
use Rattle.ring.specs.Laws.{Turned, EnqueueTurn, DequeueTurn, TurnOf, TouchesItsOwn}
use Rattle.ring.specs.Phases.{kind_side}
use Rattle.ring.specs.Table.{Table, worker, cell, occupied}
use Rattle.ring.specs.Turns.{Turn, same_pair, still, is_token, places, takes}
use Rattle.ring.proofs.Pairs.{pair_from}
use Rattle.ring.proofs.RowByRow.{GivesTurn, RowsTouchTheirOwn, kept_on, row_of_turn, rows_touch_their_own}
use Rattle.ring.proofs.Values.{still_free, still_own}
use Rattle.prq.specs.Rows.{by_value, prq_rows, prq_step}

module _ {I : Type 0} where
  abbrev pub on : Worker I → Cell I → Phase → Turn I
  on w s p = record { worker = with_phase w p; cell = s; answer = Working }

  abbrev pub past : Worker I → Cell I → Turn I
  past w s = record { worker = with_phase w (Engine D9); cell = s; answer = PassedOver w.ticket }

  -- a worker with the record w takes a turn at each row: s is its ticket's cell, c its ticket's round
  pub data Did (head : ℕ) (n : WorkerNo) (w : Worker I) (s : Cell I) (c : Epoch) : KindRow → Turn I → Type 0 where
    e3 : Did head n w s c E3 (on (with_pair w s.pair) s (Kind E4))
    e4_out : Did head n w s c E4 (on (with_value w s.value) s (Engine E9))
    e4_safe : occupied s.value ≡ false → w.pair.epoch.0 < c.0 → w.pair.safe ≡ true → Did head n w s c E4 (on (with_value w s.value) s (Kind E6))
    e4_unsafe : occupied s.value ≡ false → w.pair.epoch.0 < c.0 → w.pair.safe ≡ false → Did head n w s c E4 (on (with_value w s.value) s (Kind E5))
    e5_in : head ≤ w.ticket.0 → Did head n w s c E5 (on w s (Kind E6))
    e5_out : Did head n w s c E5 (on w s (Engine E9))
    e6_in : occupied s.value ≡ false → Did head n w s c E6 (on w (with_cell_value s (Token n)) (Kind E7))
    e6_out : Did head n w s c E6 (on w s (Engine E9))
    e7_in : w.pair ≡ s.pair → Did head n w s c E7 (on w (with_cell_pair s (record { safe = true; epoch = c })) (Kind E8))
    e7_out : Did head n w s c E7 (on w s (Kind E11))
    e8_in : (i : I) → s.value ≡ Token n → w.item ≡ Some i
        → Did head n w s c E8 (record { worker = finished w; cell = with_cell_value s (Item i); answer = Placed w.ticket i })
    e8_out : Did head n w s c E8 (on w s (Engine E9))
    e11_in : s.value ≡ Token n → Did head n w s c E11 (on w (with_cell_value s Empty) (Engine E9))
    e11_out : Did head n w s c E11 (on w s (Engine E9))
    d2 : Did head n w s c D2 (on (with_pair w s.pair) s (Kind D3))
    d3 : Did head n w s c D3 (on (with_value w s.value) s (Kind D4))
    d4_stale : Did head n w s c D4 (on w s (Kind D2))
    d4_late : w.pair ≡ s.pair → c.0 < s.pair.epoch.0 → Did head n w s c D4 (past w s)
    d4_empty : w.value ≡ Empty → w.pair ≡ s.pair → s.pair.epoch.0 ≤ c.0 → Did head n w s c D4 (on w s (Kind D7))
    d4_token : (m : WorkerNo) → w.value ≡ Token m → w.pair ≡ s.pair → s.pair.epoch.0 ≤ c.0 → Did head n w s c D4 (on w s (Kind D6))
    d4_exact : (i : I) → w.value ≡ Item i → w.pair ≡ s.pair → s.pair.epoch.0 ≡ c.0 → Did head n w s c D4 (on w s (Kind D5))
    d4_low : (i : I) → w.value ≡ Item i → w.pair ≡ s.pair → s.pair.epoch.0 < c.0 → Did head n w s c D4 (on w s (Kind D8))
    d5 : (i : I) → w.value ≡ Item i → Did head n w s c D5 (record { worker = finished w; cell = with_cell_value s Empty; answer = Taken w.ticket i })
    d6_in : occupied s.value ≡ false → Did head n w s c D6 (on w (with_cell_value s Empty) (Kind D7))
    d6_out : Did head n w s c D6 (on w s (Kind D2))
    d7_in : w.pair ≡ s.pair → Did head n w s c D7 (past w (with_cell_pair s (record { safe = s.pair.safe; epoch = c })))
    d7_out : Did head n w s c D7 (on w s (Kind D2))
    d8_in : w.pair ≡ s.pair → Did head n w s c D8 (past w (with_cell_pair s (record { safe = false; epoch = s.pair.epoch })))
    d8_out : Did head n w s c D8 (on w s (Kind D2))

  module _ (head : ℕ) (n : WorkerNo) (w : Worker I) (s : Cell I) (c : Epoch) where
    -- a row that tests its pair
    by_pair : (k : KindRow) (x y : Result (Turn I) Refusal) → (w.pair ≡ s.pair → GivesTurn (Did head n w s c k) x) → GivesTurn (Did head n w s c k) y
        → GivesTurn (Did head n w s c k) (cond (same_pair w.pair s.pair) x y)
    by_pair k x y f g = cond_both (same_pair w.pair s.pair) x y (GivesTurn (Did head n w s c k)) (λ e. f (pair_from w.pair s.pair e)) (λ _. g)

    did : (k : KindRow) → GivesTurn (Did head n w s c k) (prq_rows head n w s c k)
    did E3 = e3
    did E4 =
        cond_both (occupied s.value || nat_le c.0 w.pair.epoch.0) (Engine E9) _ (λ p. Did head n w s c E4 (on (with_value w s.value) s p)) (λ e. e4_out)
        (λ e.
        let h = or_parts (occupied s.value) (nat_le c.0 w.pair.epoch.0) e in
        let l = leb-false c.0 w.pair.epoch.0 h.1 in
        cond_both w.pair.safe E6 E5 (λ k. Did head n w s c E4 (on (with_value w s.value) s (Kind k))) (e4_safe h.0 l) (e4_unsafe h.0 l))
    did E5 =
        cond_both (nat_le head w.ticket.0) (Kind E6) (Engine E9) (λ p. Did head n w s c E5 (on w s p)) (λ e. e5_in (leb-true head w.ticket.0 e)) (λ e. e5_out)
    did E6 = cond_both (still w.value s.value) _ _ (GivesTurn (Did head n w s c E6)) (λ e. e6_in (still_free w.value s.value e)) (λ e. e6_out)
    did E7 = by_pair E7 _ _ e7_in e7_out
    did E8 = cond_both (still (Token n) s.value) _ _ (GivesTurn (Did head n w s c E8)) (λ e. go (still_own n s.value e) w.item refl) (λ e. e8_out)
      where
        go : s.value ≡ Token n → (i : Option I) → w.item ≡ i → GivesTurn (Did head n w s c E8) (places w s i)
        go e None f = refl
        go e (Some i) f = e8_in i e f
    did E11 =
        cond_both (still (Token n) s.value) (with_cell_value s Empty) s (λ x. Did head n w s c E11 (on w x (Engine E9))) (λ e. e11_in (still_own n s.value e)) (λ e. e11_out)
    did D2 = d2
    did D3 = d3
    did D4 =
        by_pair D4 _ _
        (λ f.
        cond_both (nat_lt c.0 s.pair.epoch.0) _ _ (GivesTurn (Did head n w s c D4)) (λ g. d4_late f (ltb-true c.0 s.pair.epoch.0 g))
        (λ g. go f (ltb-false c.0 s.pair.epoch.0 g) w.value refl))
        d4_stale
      where
        go : w.pair ≡ s.pair → s.pair.epoch.0 ≤ c.0 → (v : Value I) → w.value ≡ v → Did head n w s c D4 (on w s (Kind (by_value v (s.pair.epoch.0 == c.0))))
        go e l Empty f = d4_empty f e l
        go e l (Token m) f = d4_token m f e l
        go e l (Item i) f =
            cond_both (s.pair.epoch.0 == c.0) D5 D8 (λ k. Did head n w s c D4 (on w s (Kind k))) (λ g. d4_exact i f e (eqb-true s.pair.epoch.0 c.0 g))
            (λ g. let h = eqb-false s.pair.epoch.0 c.0 g in d4_low i f e (omega arith))
    did D5 = go w.value refl
      where
        go : (v : Value I) → w.value ≡ v → GivesTurn (Did head n w s c D5) (takes w s v)
        go Empty e = refl
        go (Token m) e = refl
        go (Item i) e = d5 i e
    did D6 =
        cond_both (is_token w.value && still w.value s.value) _ _ (GivesTurn (Did head n w s c D6))
        (λ e. d6_in (still_free w.value s.value (and_parts (is_token w.value) (still w.value s.value) e).1)) (λ e. d6_out)
    did D7 = by_pair D7 _ _ d7_in d7_out
    did D8 = by_pair D8 _ _ d8_in d8_out

    -- a turn touches what is its own
    did_own : (k : KindRow) (out : Turn I) → Did head n w s c k out → TurnOf (kind_side k) w out
    did_own k out e3 = EnqueueTurn.went_on refl (record { ticket = refl; item = refl }) E4 refl refl
    did_own k out e4_out = EnqueueTurn.gave_up refl (record { ticket = refl; item = refl }) refl
    did_own k out (e4_safe a b e) = EnqueueTurn.went_on refl (record { ticket = refl; item = refl }) E6 refl refl
    did_own k out (e4_unsafe a b e) = EnqueueTurn.went_on refl (record { ticket = refl; item = refl }) E5 refl refl
    did_own k out (e5_in a) = EnqueueTurn.went_on refl (kept_on w _) E6 refl refl
    did_own k out e5_out = EnqueueTurn.gave_up refl (kept_on w _) refl
    did_own k out (e6_in a) = EnqueueTurn.went_on refl (kept_on w _) E7 refl refl
    did_own k out e6_out = EnqueueTurn.gave_up refl (kept_on w _) refl
    did_own k out (e7_in a) = EnqueueTurn.went_on refl (kept_on w _) E8 refl refl
    did_own k out e7_out = EnqueueTurn.went_on refl (kept_on w _) E11 refl refl
    did_own k out (e8_in i a b) = EnqueueTurn.did_place i b refl refl
    did_own k out e8_out = EnqueueTurn.gave_up refl (kept_on w _) refl
    did_own k out (e11_in a) = EnqueueTurn.gave_up refl (kept_on w _) refl
    did_own k out e11_out = EnqueueTurn.gave_up refl (kept_on w _) refl
    did_own k out d2 = DequeueTurn.went_on refl (record { ticket = refl; item = refl }) D3 refl refl
    did_own k out d3 = DequeueTurn.went_on refl (record { ticket = refl; item = refl }) D4 refl refl
    did_own k out d4_stale = DequeueTurn.went_on refl (kept_on w _) D2 refl refl
    did_own k out (d4_late a b) = DequeueTurn.did_pass refl (kept_on w _) refl
    did_own k out (d4_empty v a b) = DequeueTurn.went_on refl (kept_on w _) D7 refl refl
    did_own k out (d4_token m v a b) = DequeueTurn.went_on refl (kept_on w _) D6 refl refl
    did_own k out (d4_exact i v a b) = DequeueTurn.went_on refl (kept_on w _) D5 refl refl
    did_own k out (d4_low i v a b) = DequeueTurn.went_on refl (kept_on w _) D8 refl refl
    did_own k out (d5 i v) = DequeueTurn.did_take i refl refl
    did_own k out (d6_in a) = DequeueTurn.went_on refl (kept_on w _) D7 refl refl
    did_own k out d6_out = DequeueTurn.went_on refl (kept_on w _) D2 refl refl
    did_own k out (d7_in a) = DequeueTurn.did_pass refl (kept_on w _) refl
    did_own k out d7_out = DequeueTurn.went_on refl (kept_on w _) D2 refl refl
    did_own k out (d8_in a) = DequeueTurn.did_pass refl (kept_on w _) refl
    did_own k out d8_out = DequeueTurn.went_on refl (kept_on w _) D2 refl refl

  module _ (t : Table I) (n : WorkerNo) where
    abbrev pub DidTurn : KindRow → Turn I → Type 0
    DidTurn = Did t.counters.head n (worker t n) (cell t (worker t n).ticket) (round t.counters.cells (worker t n).ticket)

    pub did_turn : (out : Turn I) (d : Turned prq_step t n out) → DidTurn d.standing out
    did_turn out d = subst (GivesTurn (DidTurn d.standing)) (row_of_turn prq_rows t n out d) (did _ _ _ _ _ d.standing)

  rows_own : RowsTouchTheirOwn {I = I} prq_rows
  rows_own head n w s c k = own_or (prq_rows head n w s c k) (did head n w s c k)
    where
      own_or : (x : Result (Turn I) Refusal) → GivesTurn (Did head n w s c k) x → GivesTurn (TurnOf (kind_side k) w) x
      own_or (Ok out) e = did_own head n w s c k out e
      own_or (Err r) e = e

  -- law 1, on every table
  pub touches : (t : Table I) → TouchesItsOwn prq_step t
  touches = rows_touch_their_own prq_rows rows_own
