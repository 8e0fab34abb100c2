-- What a turn of PRQ does to its cell, and what of it the other workers see.
use Rattle.std.specs.Prelude.{◌≡◌, ℕ, ◌/◌, ◌<◌, ◌≤◌, true, false, ◌⊎◌, Some, ◌≢◌, refl}
use Rattle.std.proofs.Common.{ap, subst, inl, inr, arith}
use Rattle.tickets.specs.declared.Epoch.{Epoch}
use Rattle.tickets.specs.declared.WorkerNo.{WorkerNo}
use Rattle.tickets.specs.Places.{round, slot}
use Rattle.ring.specs.declared.table.Pair.{Pair}
use Rattle.ring.specs.declared.table.Value.{Value}
use Rattle.ring.specs.declared.table.Cell.{Cell}
use Rattle.ring.specs.declared.table.KindRow.{KindRow}
use Rattle.ring.specs.declared.table.Phase.{Phase}
use Rattle.ring.specs.declared.table.Worker.{Worker}
use Rattle.ring.specs.declared.table.Value.TheVariants.{Empty, Token, Item}
use Rattle.ring.specs.declared.table.Side.TheVariants.{Dequeuing}
use Rattle.ring.specs.declared.table.KindRow.TheVariants.{E3, E4, E5, E6, E7, E8, E11, D2, D3, D4, D5, D6, D7, D8}
use Rattle.ring.specs.declared.table.Phase.TheVariants.{Idle, Engine, Kind}
use Rattle.ring.specs.declared.answers.Answer.TheVariants.{Working, Placed, Taken}
use Rattle.ring.specs.Fields.{finished, with_cell_value, with_cell_pair}
use Rattle.ring.specs.Table.{Table, occupied}
use Rattle.ring.specs.Turns.{Turn}
use Rattle.ring.proofs.Orderly.{drawn}
use Rattle.prq.specs.Barred.{AtDoor, Unlocked}
use Rattle.prq.specs.Keys.{key, key_up, key_unsafe}
use Rattle.prq.specs.Promises.{AtRow}
use Rattle.prq.specs.Turns.{on, past, Did, e3, e4_out, e4_safe, e4_unsafe, e5_in, e5_out, e6_in, e6_out, e7_in, e7_out, e8_in, e8_out, e11_in, e11_out, d2, d3, d4_stale, d4_late, d4_empty, d4_token, d4_exact, d4_low, d5, d6_in, d6_out, d7_in, d7_out, d8_in, d8_out}

-- Neither at the door nor about to place
abbrev pub Plain : Phase → Type 0
Plain p = (p ≢ Kind E8) × (AtDoor p → ⊥)

-- a phase other than E6, E7 and E8, by computation
abbrev pub Aside : Phase → Type 0
Aside Idle = Unit {0}
Aside (Engine e) = Unit {0}
Aside (Kind E3) = Unit {0}
Aside (Kind E4) = Unit {0}
Aside (Kind E5) = Unit {0}
Aside (Kind E6) = ⊥
Aside (Kind E7) = ⊥
Aside (Kind E8) = ⊥
Aside (Kind E11) = Unit {0}
Aside (Kind D2) = Unit {0}
Aside (Kind D3) = Unit {0}
Aside (Kind D4) = Unit {0}
Aside (Kind D5) = Unit {0}
Aside (Kind D6) = Unit {0}
Aside (Kind D7) = Unit {0}
Aside (Kind D8) = Unit {0}

pub plain : (p : Phase) → Aside p → Plain p
plain p a = (λ e. subst Aside e a, go)
  where
    go : AtDoor p → ⊥
    go (inl e) = subst Aside e a
    go (inr e) = subst Aside e a

module _ {I : Type 0} where
  pub data Effect (head : ℕ) (n : WorkerNo) (w : Worker I) (s : Cell I) (c : Epoch) : KindRow → Turn I → Type 0 where
    -- none: goes to E6, elsewhere, or passes over
    enters : (k : KindRow) (v : Worker I) → v.pair ≡ w.pair → (w.pair.safe ≡ true) ⊎ (head ≤ w.ticket.0) → v.phase ≡ Kind E6
        → Effect head n w s c k (record { worker = v; cell = s; answer = Working })
    looks : (k : KindRow) (v : Worker I) → Plain v.phase → Effect head n w s c k (record { worker = v; cell = s; answer = Working })
    late : c.0 < s.pair.epoch.0 → Effect head n w s c D4 (past w s)
    -- on the value
    puts_token : occupied s.value ≡ false → Effect head n w s c E6 (on w (with_cell_value s (Token n)) (Kind E7))
    empties : (k : KindRow) (p : Phase) → occupied s.value ≡ false → Plain p → Effect head n w s c k (on w (with_cell_value s Empty) p)
    sets_item : (i : I) → s.value ≡ Token n → w.item ≡ Some i
        → Effect head n w s c E8 (record { worker = finished w; cell = with_cell_value s (Item i); answer = Placed w.ticket i })
    takes_item : (i : I) → w.value ≡ Item i → Effect head n w s c D5 (record { worker = finished w; cell = with_cell_value s Empty; answer = Taken w.ticket i })
    -- on the pair
    raises : w.pair ≡ s.pair → Effect head n w s c E7 (on w (with_cell_pair s (record { safe = true; epoch = c })) (Kind E8))
    lifts : w.pair ≡ s.pair → Effect head n w s c D7 (past w (with_cell_pair s (record { safe = s.pair.safe; epoch = c })))
    marks : w.pair ≡ s.pair → Effect head n w s c D8 (past w (with_cell_pair s (record { safe = false; epoch = s.pair.epoch })))

  module _ (head : ℕ) (n : WorkerNo) (w : Worker I) (s : Cell I) (c : Epoch) where
    pub effect : (k : KindRow) (out : Turn I) → Did head n w s c k out → Effect head n w s c k out
    effect k out e3 = looks _ _ (plain (Kind E4) tt)
    effect k out e4_out = looks _ _ (plain (Engine _) tt)
    effect k out (e4_safe a b e) = enters _ _ refl (inl e) refl
    effect k out (e4_unsafe a b e) = looks _ _ (plain (Kind E5) tt)
    effect k out (e5_in a) = enters _ _ refl (inr a) refl
    effect k out e5_out = looks _ _ (plain (Engine _) tt)
    effect k out (e6_in a) = puts_token a
    effect k out e6_out = looks _ _ (plain (Engine _) tt)
    effect k out (e7_in a) = raises a
    effect k out e7_out = looks _ _ (plain (Kind E11) tt)
    effect k out (e8_in i a b) = sets_item i a b
    effect k out e8_out = looks _ _ (plain (Engine _) tt)
    effect k out (e11_in a) = empties _ _ (ap occupied a) (plain (Engine _) tt)
    effect k out e11_out = looks _ _ (plain (Engine _) tt)
    effect k out d2 = looks _ _ (plain (Kind D3) tt)
    effect k out d3 = looks _ _ (plain (Kind D4) tt)
    effect k out d4_stale = looks _ _ (plain (Kind D2) tt)
    effect k out (d4_late a b) = late b
    effect k out (d4_empty v a b) = looks _ _ (plain (Kind D7) tt)
    effect k out (d4_token m v a b) = looks _ _ (plain (Kind D6) tt)
    effect k out (d4_exact i v a b) = looks _ _ (plain (Kind D5) tt)
    effect k out (d4_low i v a b) = looks _ _ (plain (Kind D8) tt)
    effect k out (d5 i v) = takes_item i v
    effect k out (d6_in a) = empties _ _ a (plain (Kind D7) tt)
    effect k out d6_out = looks _ _ (plain (Kind D2) tt)
    effect k out (d7_in a) = lifts a
    effect k out d7_out = looks _ _ (plain (Kind D2) tt)
    effect k out (d8_in a) = marks a
    effect k out d8_out = looks _ _ (plain (Kind D2) tt)

  -- what is seen of the cell's new pair, of its new value, and of the worker's new record
  pub record PairSeen (t : Table I) (w : Worker I) (s : Cell I) (p : Pair) : Type 0 where
    pub rises : key s.pair ≤ key p
    pub lock : (p ≡ s.pair) ⊎ Unlocked t (slot t.counters.cells w.ticket) s.value
    pub epoch : (p.epoch ≡ s.pair.epoch) ⊎ (occupied s.value ≡ false)
    pub safe : s.pair.safe ≡ false → p.safe ≡ true → AtDoor w.phase × (w.pair ≡ s.pair) × (p.epoch.0 ≡ w.ticket.0 / t.counters.cells)

  pub record ValueSeen (t : Table I) (n : WorkerNo) (w : Worker I) (s : Cell I) (v : Value I) : Type 0 where
    pub token : (m : WorkerNo) → (m.0 ≢ n.0) → v ≡ Token m → s.value ≡ Token m
    pub item : (i : I) → s.value ≡ Item i → (v ≡ Item i) ⊎ ((drawn w.phase ≡ Dequeuing) × (s.pair.epoch.0 ≡ w.ticket.0 / t.counters.cells))
    pub free : occupied s.value ≡ false → (occupied v ≡ false) ⊎ ((w.phase ≡ Kind E8) × (s.value ≡ Token n))

  pub record WorkerSeen (head : ℕ) (w : Worker I) (s : Cell I) (v : Worker I) (p : Pair) : Type 0 where
    pub locks : v.phase ≡ Kind E8 → s.pair.epoch.0 < p.epoch.0
    pub door : AtDoor v.phase → (v.pair ≡ w.pair) × (p ≡ s.pair) × ((w.pair.safe ≡ true) ⊎ ((head ≤ w.ticket.0) ⊎ AtDoor w.phase))

  pub record Seen (t : Table I) (n : WorkerNo) (w : Worker I) (s : Cell I) (out : Turn I) : Type 0 where
    pub pair : PairSeen t w s out.cell.pair
    pub value : ValueSeen t n w s out.cell.value
    pub worker : WorkerSeen t.counters.head w s out.worker out.cell.pair

  module _ (t : Table I) (n : WorkerNo) (w : Worker I) (s : Cell I) where
    same_pair : PairSeen t w s s.pair
    same_pair = record { rises = omega arith; lock = inl refl; epoch = inl refl; safe = λ e f. cc }

    same_value : ValueSeen t n w s s.value
    same_value = record { token = λ m h e. e; item = λ i e. inl e; free = λ e. inl e }

    no_item : {A : Type 0} (i : I) → occupied s.value ≡ false → s.value ≡ Item i → A
    no_item i h e = let f = ap occupied e in cc

    emptied : occupied s.value ≡ false → ValueSeen t n w s Empty
    emptied h = record { token = λ m g e. cc; item = λ i e. no_item i h e; free = λ e. inl refl }

    plainly : (v : Worker I) (p : Pair) → Plain v.phase → WorkerSeen t.counters.head w s v p
    plainly v p a = record { locks = λ e. absurd (a.0 e); door = λ e. absurd (a.1 e) }

    pub seen : (k : KindRow) (out : Turn I) → w.phase ≡ Kind k → AtRow t n w s k → Effect t.counters.head n w s (round t.counters.cells w.ticket) k out → Seen t n w s out
    seen k out h a (enters _ v e f g) =
        record {
          pair = same_pair;
          value = same_value;
          worker = record { locks = λ z. cc; door = λ z. (e, refl, elim f [ inl q ↦ inl q | inr q ↦ inr (inl q) ]) };
        }
    seen k out h a (looks _ v e) = record { pair = same_pair; value = same_value; worker = plainly v s.pair e }
    seen k out h a (late e) = record { pair = same_pair; value = same_value; worker = plainly _ _ (plain (Engine _) tt) }
    seen k out h a (puts_token e) =
        record {
          pair = same_pair;
          value = record { token = λ m g f. absurd (g (cc)); item = λ i f. no_item i e f; free = λ _. inl refl };
          worker = record { locks = λ z. cc; door = λ z. (refl, refl, inr (inr (inl h))) };
        }
    seen k out h a (empties _ p e f) = record { pair = same_pair; value = emptied e; worker = plainly _ _ f }
    seen k out h a (sets_item i e f) =
        record { pair = same_pair; value = record { token = λ m g z. cc; item = λ j z. cc; free = λ z. inr (h, e) }; worker = plainly _ _ (plain Idle tt) }
    seen k out h a (takes_item i e) =
        record {
          pair = same_pair;
          value = record { token = λ m g z. cc; item = λ j z. inr (ap drawn h, (a i e).1); free = λ _. inl refl };
          worker = plainly _ _ (plain Idle tt);
        }
    seen k out h a (raises e) =
        let q = a.2 e in
        let l = a.1 in
        let f = ap (λ z. z.epoch.0) e in
        record {
          pair = record { rises = key_up s.pair (record { safe = true; epoch = round t.counters.cells w.ticket }) (omega arith); lock = inr q.1; epoch = inr q.0; safe = λ y z. (inr h, e, refl) };
          value = same_value;
          worker = record { locks = λ z. omega arith; door = λ z. absurd (plain_e8 z) };
        }
      where
        plain_e8 : AtDoor (Kind E8) → ⊥
        plain_e8 (inl z) = cc
        plain_e8 (inr z) = cc
    seen k out h a (lifts e) =
        let q = a.2 e in
        let l = a.1 in
        let f = ap (λ z. z.epoch.0) e in
        record { pair = record { rises = omega arith; lock = inr q.1; epoch = inr q.0; safe = λ y z. cc }; value = same_value; worker = plainly _ _ (plain (Engine _) tt) }
    seen k out h a (marks e) =
        record {
          pair = record { rises = key_unsafe s.pair; lock = inr (a.2.0 e); epoch = inl refl; safe = λ y z. cc };
          value = same_value;
          worker = plainly _ _ (plain (Engine _) tt);
        }
