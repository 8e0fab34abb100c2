-- What a turn of CRQ comes to, and what each worker can rely on.
use Rattle.std.specs.Prelude.{◌≡◌, ℕ, ◌<◌, ◌≤◌, true, false, cond, ◌&&◌, ◌⊎◌, Some, None, Ok, Err, Option, Result, ◌==◌, nat_le, nat_lt, refl}
use Rattle.std.proofs.Common.{ap, inl, inr, arith}
use Rattle.std.proofs.lemmas.Bool.{leb-true, ltb-true, ltb-false, eqb-true, eqb-false, and_parts, cond_both}
use Rattle.tickets.specs.declared.Epoch.{Epoch}
use Rattle.tickets.specs.declared.WorkerNo.{WorkerNo}
use Rattle.ring.specs.declared.table.Pair.{Pair}
use Rattle.ring.specs.declared.table.Value.{Value}
use Rattle.ring.specs.declared.table.Cell.{Cell}
use Rattle.ring.specs.declared.table.KindRow.{KindRow}
use Rattle.ring.specs.declared.table.Phase.{Phase}
use Rattle.ring.specs.declared.table.Worker.{Worker}
use Rattle.ring.specs.declared.table.Value.TheVariants.{Empty, Token, Item}
use Rattle.ring.specs.declared.table.Side.TheVariants.{Enqueuing, Dequeuing}
use Rattle.ring.specs.declared.table.EngineRow.TheVariants.{E9, D9}
use Rattle.ring.specs.declared.table.KindRow.TheVariants.{E3, E4, E5, E6, E7, E8, E11, D2, D3, D4, D5, D6, D7, D8}
use Rattle.ring.specs.declared.table.Phase.TheVariants.{Engine, Kind}
use Rattle.ring.specs.declared.answers.Refusal.{Refusal}
use Rattle.ring.specs.declared.answers.Answer.TheVariants.{Working, Placed, Taken, PassedOver}
use Rattle.ring.specs.declared.answers.Refusal.TheVariants.{Misfit}
use Rattle.ring.specs.Fields.{with_phase, with_value, finished, with_cell_pair}
use Rattle.ring.specs.Phases.{kind_side}
use Rattle.ring.specs.Table.{occupied}
use Rattle.ring.specs.Turns.{Turn, same_pair, is_empty, is_token, goes, places, takes}
use Rattle.ring.proofs.Pairs.{pair_from}
use Rattle.ring.proofs.Values.{empty_from}
use Rattle.crq.specs.Rows.{by_value, next_epoch, crq_rows}

-- two rows of one operation
abbrev pub OneSide : KindRow → KindRow → Type 0
OneSide k l = ((kind_side k ≡ Enqueuing) × (kind_side l ≡ Enqueuing)) ⊎ ((kind_side k ≡ Dequeuing) × (kind_side l ≡ Dequeuing))

module _ {I : Type 0} where
  -- the epoch read is not beyond the cell's
  abbrev pub Seen : Cell I → Worker I → Type 0
  Seen s w = w.pair.epoch.0 ≤ s.pair.epoch.0

  -- what a worker in this phase can rely on: s is its ticket's cell, and c its ticket's round
  abbrev pub Promise : ℕ → Cell I → Worker I → KindRow → Type 0
  Promise c s w E3 = Unit {0}
  Promise c s w E4 = Seen s w
  Promise c s w E5 = Seen s w × (w.pair.epoch.0 ≤ c)
  Promise c s w E6 = Seen s w × (w.pair.epoch.0 ≤ c)
  Promise c s w E7 = Unit {0}
  Promise c s w E8 = Unit {0}
  Promise c s w E11 = Unit {0}
  Promise c s w D2 = Unit {0}
  Promise c s w D3 = Seen s w
  Promise c s w D4 = Unit {0}
  Promise c s w D5 = Seen s w × (w.pair.epoch.0 ≡ c) × ((i : I) → w.value ≡ Item i → s.pair.epoch.0 ≡ c → s.value ≡ Item i)
  Promise c s w D6 = Unit {0}
  Promise c s w D7 = w.pair.epoch.0 ≤ c
  Promise c s w D8 = w.pair.epoch.0 < c

  -- the same operation in another phase, with what it has now read
  abbrev pub onto : Worker I → Phase → Pair → Value I → Worker I
  onto w x p v = record { phase = x; ticket = w.ticket; item = w.item; pair = p; value = v }

  -- what a turn can come to: c is the ticket's round, w the record and s the cell before
  pub data Came (c : Epoch) (head : ℕ) (w : Worker I) (s : Cell I) : KindRow → Result (Turn I) Refusal → Type 0 where
    refused : {k : KindRow} → Came c head w s k (Err Misfit)
    went_on : {k : KindRow} (l : KindRow) (p : Pair) (v : Value I) → OneSide k l → (Promise c.0 s w k → Promise c.0 s (onto w (Kind l) p v) l)
        → (l ≡ E6 → (p.safe ≡ true) ⊎ (head ≤ w.ticket.0)) → Came c head w s k (Ok (record { worker = onto w (Kind l) p v; cell = s; answer = Working }))
    gave_up : {k : KindRow} (v : Value I) → kind_side k ≡ Enqueuing → Came c head w s k (Ok (record { worker = onto w (Engine E9) w.pair v; cell = s; answer = Working }))
    did_place : (i : I) → w.item ≡ Some i → w.pair ≡ s.pair → s.value ≡ Empty
        → Came c head w s E6 (Ok (record { worker = finished w; cell = record { pair = record { safe = true; epoch = c }; value = Item i }; answer = Placed w.ticket i }))
    turned_away : (v : Value I) → (c.0 < w.pair.epoch.0) ⊎ (is_token s.value ≡ true)
        → Came c head w s D3 (Ok (record { worker = onto w (Engine D9) w.pair v; cell = s; answer = PassedOver w.ticket }))
    did_take : (i : I) → w.value ≡ Item i → w.pair ≡ s.pair → occupied s.value ≡ true
        → Came c head w s D5
        (Ok (record { worker = finished w; cell = record { pair = record { safe = s.pair.safe; epoch = next_epoch c }; value = Empty }; answer = Taken w.ticket i }))
    did_raise : w.pair ≡ s.pair → s.value ≡ Empty
        → Came c head w s D7
        (Ok (record {
          worker = with_phase w (Engine D9);
          cell = record { pair = record { safe = s.pair.safe; epoch = next_epoch c }; value = s.value };
          answer = PassedOver w.ticket;
        }))
    did_shut : w.pair ≡ s.pair → occupied s.value ≡ true
        → Came c head w s D8
        (Ok (record {
          worker = with_phase w (Engine D9);
          cell = record { pair = record { safe = false; epoch = s.pair.epoch }; value = s.value };
          answer = PassedOver w.ticket;
        }))

  module _ (head : ℕ) (n : WorkerNo) (w : Worker I) (s : Cell I) (c : Epoch) where
    -- the tests of the rows that write
    free : same_pair w.pair s.pair && is_empty s.value ≡ true → (w.pair ≡ s.pair) × (s.value ≡ Empty)
    free e = let a = and_parts (same_pair w.pair s.pair) (is_empty s.value) e in (pair_from w.pair s.pair a.0, empty_from s.value a.1)

    full : same_pair w.pair s.pair && occupied s.value ≡ true → (w.pair ≡ s.pair) × (occupied s.value ≡ true)
    full e = let a = and_parts (same_pair w.pair s.pair) (occupied s.value) e in (pair_from w.pair s.pair a.0, a.1)

    -- a row that tests its pair, and that the cell is empty or occupied
    by_free : (k : KindRow) (x y : Result (Turn I) Refusal) → (w.pair ≡ s.pair → s.value ≡ Empty → Came c head w s k x) → Came c head w s k y
        → Came c head w s k (cond (same_pair w.pair s.pair && is_empty s.value) x y)
    by_free k x y f g = cond_both (same_pair w.pair s.pair && is_empty s.value) x y (Came c head w s k) (λ b. let a = free b in f a.0 a.1) (λ _. g)

    by_full : (k : KindRow) (x y : Result (Turn I) Refusal) → (w.pair ≡ s.pair → occupied s.value ≡ true → Came c head w s k x) → Came c head w s k y
        → Came c head w s k (cond (same_pair w.pair s.pair && occupied s.value) x y)
    by_full k x y f g = cond_both (same_pair w.pair s.pair && occupied s.value) x y (Came c head w s k) (λ b. let a = full b in f a.0 a.1) (λ _. g)

    back : (k : KindRow) → kind_side k ≡ Dequeuing → Came c head w s k (goes w s (Kind D2))
    back k e = went_on D2 w.pair w.value (inr (e, refl)) (λ _. tt) (λ z. cc)

    came_place : w.pair ≡ s.pair → s.value ≡ Empty → (o : Option I) → w.item ≡ o → Came c head w s E6 (places w (with_cell_pair s (record { safe = true; epoch = c })) o)
    came_place p q None e = refused
    came_place p q (Some i) e = did_place i e p q

    came_take : w.pair ≡ s.pair → occupied s.value ≡ true → (v : Value I) → w.value ≡ v
        → Came c head w s D5 (takes w (with_cell_pair s (record { safe = s.pair.safe; epoch = next_epoch c })) v)
    came_take p q Empty e = refused
    came_take p q (Token m) e = refused
    came_take p q (Item i) e = did_take i e p q

    came_value : w.pair.epoch.0 ≤ c.0 → (v : Value I) → s.value ≡ v → Came c head w s D3 (by_value (with_value w s.value) s v (w.pair.epoch.0 == c.0))
    came_value h Empty e = went_on D7 w.pair s.value (inr (refl, refl)) (λ p. h) (λ z. cc)
    came_value h (Token m) e = turned_away s.value (inr (ap is_token e))
    came_value h (Item i) e =
        cond_both (w.pair.epoch.0 == c.0) D5 D8 (λ k. Came c head w s D3 (goes (with_value w s.value) s (Kind k)))
        (λ b. went_on D5 w.pair s.value (inr (refl, refl)) (λ p. (p, eqb-true w.pair.epoch.0 c.0 b, λ j f g. f)) (λ z. cc))
        (λ b. let n = eqb-false w.pair.epoch.0 c.0 b in went_on D8 w.pair s.value (inr (refl, refl)) (λ p. omega arith) (λ z. cc))

    pub came_row : (k : KindRow) → Came c head w s k (crq_rows head n w s c k)
    came_row E3 = went_on E4 s.pair w.value (inl (refl, refl)) (λ _. omega arith) (λ z. cc)
    came_row E4 =
        cond_both (is_empty s.value && nat_le w.pair.epoch.0 c.0) (Kind (cond w.pair.safe E6 E5)) (Engine E9)
        (λ p. Came c head w s E4 (goes (with_value w s.value) s p))
        (λ b.
        let h = leb-true w.pair.epoch.0 c.0 (and_parts (is_empty s.value) (nat_le w.pair.epoch.0 c.0) b).1 in
        cond_both w.pair.safe E6 E5 (λ k. Came c head w s E4 (goes (with_value w s.value) s (Kind k)))
        (λ f. went_on E6 w.pair s.value (inl (refl, refl)) (λ p. (p, h)) (λ _. inl f))
        (λ f. went_on E5 w.pair s.value (inl (refl, refl)) (λ p. (p, h)) (λ z. cc)))
        (λ _. gave_up s.value refl)
    came_row E5 =
        cond_both (nat_le head w.ticket.0) (Kind E6) (Engine E9) (λ p. Came c head w s E5 (goes w s p))
        (λ b. went_on E6 w.pair w.value (inl (refl, refl)) (λ p. p) (λ _. inr (leb-true head w.ticket.0 b))) (λ _. gave_up w.value refl)
    came_row E6 = by_free E6 _ _ (λ p q. came_place p q w.item refl) (gave_up w.value refl)
    came_row E7 = refused
    came_row E8 = refused
    came_row E11 = refused
    came_row D2 = went_on D3 s.pair w.value (inr (refl, refl)) (λ _. omega arith) (λ z. cc)
    came_row D3 =
        cond_both (nat_lt c.0 w.pair.epoch.0) _ _ (Came c head w s D3)
        (λ b. turned_away s.value (inl (ltb-true c.0 w.pair.epoch.0 b)))
        (λ b. came_value (ltb-false c.0 w.pair.epoch.0 b) s.value refl)
    came_row D4 = refused
    came_row D5 =
        cond_both (occupied w.value) _ _ (Came c head w s D5) (λ _. by_full D5 _ _ (λ p q. came_take p q w.value refl) (back D5 refl)) (λ _. refused)
    came_row D6 = refused
    came_row D7 = by_free D7 _ _ did_raise (back D7 refl)
    came_row D8 = by_full D8 _ _ did_shut (back D8 refl)
