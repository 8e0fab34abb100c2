-- The tickets under way: drawn once, in range, and apart from each other.
use Rattle.std.proofs.Common.{◌≡◌, ◌+◌, ◌-◌, ◌<◌, ◌≤◌, true, List, length, set, Some, sym, refl, ap, ◌∙◌, arith, length-set}
use Rattle.tickets.specs.declared.WorkerNo.{WorkerNo}
use Rattle.tickets.specs.Places.{slot}
use Rattle.ring.specs.declared.table.Cell.{Cell}
use Rattle.ring.specs.declared.table.Worker.{Worker}
use Rattle.ring.specs.declared.table.Side.{Side}
use Rattle.ring.specs.declared.table.Side.TheVariants.{Neither, Enqueuing, Dequeuing}
use Rattle.ring.specs.Table.{Counters, Table, counter_limit, worker}
use Rattle.ring.specs.Phases.{side}
use Rattle.ring.specs.Turns.{Turn, KindStep}
use Rattle.ring.specs.Calls.{is_worker}
use Rattle.ring.specs.Laws.{Turned, EnqueueTurn, DequeueTurn, then_table, TurnOf, TouchesItsOwn}
use Rattle.ring.proofs.Moves.{Move, Moved, move_from, Found, move_counters, move_worker, move_table, gets_enqueue, gets_dequeue, draws_tail, finds_open, finds_closed, finds_room, finds_full, shuts, draws_head, finds_more, finds_empty}
use Rattle.ring.proofs.Orderly.{Orderly, drawn, Apart}
use Rattle.ring.proofs.Writes.{put, each_put}

-- the counters grow within their limit
pub record Grows (c c' : Counters) : Type 0 where
  pub ring : c'.cells ≡ c.cells
  pub crew : c'.workers ≡ c.workers
  pub head : c.head ≤ c'.head
  pub head_to : c.head ≤ counter_limit → c'.head ≤ counter_limit
  pub tail : c.tail ≤ c'.tail
  pub tail_to : c.tail ≤ counter_limit → c'.tail ≤ counter_limit

pub grows_none : (c : Counters) → Grows c c
grows_none c = record { ring = refl; crew = refl; head = omega arith; head_to = λ h. h; tail = omega arith; tail_to = λ h. h }

module _ {I : Type 0} where
  -- how a worker's ticket goes on: given up, kept on its side, or drawn
  pub data Goes (c c' : Counters) (w w' : Worker I) : Type 0 where
    rests : drawn w'.phase ≡ Neither → Goes c c' w w'
    keeps : drawn w'.phase ≡ drawn w.phase → w'.ticket.0 ≡ w.ticket.0 → Goes c c' w w'
    takes_tail : drawn w'.phase ≡ Enqueuing → w'.ticket.0 ≡ c.tail → c'.tail ≡ c.tail + 1 → Goes c c' w w'
    takes_head : drawn w'.phase ≡ Dequeuing → w'.ticket.0 ≡ c.head → c'.head ≡ c.head + 1 → Goes c c' w w'

  module _ (t : Table I) (o : Orderly t) (c : Counters) (cs : List (Cell I)) (n : WorkerNo) (there : is_worker t n ≡ true) (w : Worker I) (grows : Grows t.counters c)
      (goes : Goes t.counters c (worker t n) w) where
    was_there : (m : WorkerNo) → is_worker (put t c cs n w) m ≡ true → is_worker t m ≡ true
    was_there m b = rw grows.crew at b

    set_enqueues : drawn w.phase ≡ Enqueuing → (t.counters.cells ≤ w.ticket.0) × (w.ticket.0 < c.tail)
    set_enqueues d = go goes
      where
        go : Goes t.counters c (worker t n) w → (t.counters.cells ≤ w.ticket.0) × (w.ticket.0 < c.tail)
        go (rests e) = cc
        go (keeps e k) = let q = o.enqueues n there (cc) in omega arith
        go (takes_tail e k l) = omega arith
        go (takes_head e k l) = cc

    set_dequeues : drawn w.phase ≡ Dequeuing → (t.counters.cells ≤ w.ticket.0) × (w.ticket.0 < c.head)
    set_dequeues d = go goes
      where
        go : Goes t.counters c (worker t n) w → (t.counters.cells ≤ w.ticket.0) × (w.ticket.0 < c.head)
        go (rests e) = cc
        go (keeps e k) = let q = o.dequeues n there (cc) in omega arith
        go (takes_tail e k l) = cc
        go (takes_head e k l) = omega arith

    set_apart : (m : WorkerNo) → is_worker t m ≡ true → (m.0 ≡ n.0 → ⊥) → Apart (worker t m) w
    set_apart m b h d f e = go goes
      where
        go : Goes t.counters c (worker t n) w → ⊥
        go (rests r) = f (cc)
        go (keeps r k) = o.apart m n b there h (cc) f (cc)
        go (takes_tail r k l) = let q = o.enqueues m b (cc) in omega arith
        go (takes_head r k l) = let q = o.dequeues m b (cc) in omega arith

    pub orderly_put : length cs ≡ length t.cells → (side w.phase ≡ Enqueuing → (i : I) × (w.item ≡ Some i)) → Orderly (put t c cs n w)
    orderly_put same item =
        record {
          in_range = let r = o.in_range in omega arith;
          ring = cc (o.ring, grows.ring);
          crew = length-set t.workers (n.0 - 1) w ∙ (cc (o.crew, grows.crew));
          head_from = omega arith;
          head_to = grows.head_to o.head_to;
          tail_from = omega arith;
          tail_to = grows.tail_to o.tail_to;
          carries = λ m b. each_put t o c cs n there w (λ _ v. side v.phase ≡ Enqueuing → (i : I) × (v.item ≡ Some i)) item (λ k a _. o.carries k a) m (was_there m b);
          enqueues =
              λ m b.
              each_put t o c cs n there w (λ _ v. drawn v.phase ≡ Enqueuing → (c.cells ≤ v.ticket.0) × (v.ticket.0 < c.tail))
              (λ d. let q = set_enqueues d in omega arith) (λ k a _ d. let q = o.enqueues k a d in omega arith) m (was_there m b);
          dequeues =
              λ m b.
              each_put t o c cs n there w (λ _ v. drawn v.phase ≡ Dequeuing → (c.cells ≤ v.ticket.0) × (v.ticket.0 < c.head))
              (λ d. let q = set_dequeues d in omega arith) (λ k a _ d. let q = o.dequeues k a d in omega arith) m (was_there m b);
          apart =
              λ m l b a.
              each_put t o c cs n there w (λ k v. (k.0 ≡ l.0 → ⊥) → Apart v (worker (put t c cs n w) l))
              (each_put t o c cs n there w (λ j u. (n.0 ≡ j.0 → ⊥) → Apart w u) (λ h. absurd (h refl)) (λ k d h _ x y z. set_apart k d h (sym x) (λ u. y (x ∙ u)) (sym z)) l (was_there l a))
              (λ k d h. each_put t o c cs n there w (λ j u. (k.0 ≡ j.0 → ⊥) → Apart (worker t k) u) (λ _. set_apart k d h) (λ j g _ x. o.apart k j d g x) l (was_there l a))
              m
              (was_there m b);
        }

  -- a move of the engine keeps a table orderly
  pub move_grows : (m : Move I) (c : Counters) (w : Worker I) → Found m c w → Grows c (move_counters m c)
  move_grows (gets_enqueue i) c w f = grows_none c
  move_grows gets_dequeue c w f = grows_none c
  move_grows draws_tail c w f = record { ring = refl; crew = refl; head = omega arith; head_to = λ h. h; tail = omega arith; tail_to = λ h. omega arith }
  move_grows finds_open c w f = grows_none c
  move_grows (finds_closed i) c w f = grows_none c
  move_grows finds_room c w f = grows_none c
  move_grows finds_full c w f = grows_none c
  move_grows (shuts i) c w f = record { ring = refl; crew = refl; head = omega arith; head_to = λ h. h; tail = omega arith; tail_to = λ h. h }
  move_grows draws_head c w f = record { ring = refl; crew = refl; head = omega arith; head_to = λ h. omega arith; tail = omega arith; tail_to = λ h. h }
  move_grows finds_more c w f = grows_none c
  move_grows finds_empty c w f = grows_none c

  pub move_goes : (m : Move I) (c : Counters) (w : Worker I) → w.phase ≡ move_from m → Goes c (move_counters m c) w (move_worker m c w)
  move_goes (gets_enqueue i) c w p = rests refl
  move_goes gets_dequeue c w p = rests refl
  move_goes draws_tail c w p = takes_tail refl refl refl
  move_goes finds_open c w p = keeps (sym (ap drawn p)) refl
  move_goes (finds_closed i) c w p = rests refl
  move_goes finds_room c w p = rests refl
  move_goes finds_full c w p = keeps (sym (ap drawn p)) refl
  move_goes (shuts i) c w p = rests refl
  move_goes draws_head c w p = takes_head refl refl refl
  move_goes finds_more c w p = rests refl
  move_goes finds_empty c w p = rests refl

  move_item : (m : Move I) (c : Counters) (w : Worker I) → w.phase ≡ move_from m → (side w.phase ≡ Enqueuing → (i : I) × (w.item ≡ Some i))
      → side (move_worker m c w).phase ≡ Enqueuing → (i : I) × ((move_worker m c w).item ≡ Some i)
  move_item (gets_enqueue i) c w p k s = (i, refl)
  move_item gets_dequeue c w p k s = cc
  move_item draws_tail c w p k s = k (ap side p)
  move_item finds_open c w p k s = k (ap side p)
  move_item (finds_closed i) c w p k s = cc
  move_item finds_room c w p k s = k (ap side p)
  move_item finds_full c w p k s = k (ap side p)
  move_item (shuts i) c w p k s = cc
  move_item draws_head c w p k s = cc
  move_item finds_more c w p k s = cc
  move_item finds_empty c w p k s = cc

  pub orderly_move : (t : Table I) → Orderly t → (n : WorkerNo) (m : Move I) → Moved t n m → Orderly (move_table t n m)
  orderly_move t o n m d =
      orderly_put t o (move_counters m t.counters) t.cells n d.there (move_worker m t.counters (worker t n)) (move_grows m t.counters (worker t n) d.found)
      (move_goes m t.counters (worker t n) d.standing) refl (move_item m t.counters (worker t n) d.standing (o.carries n d.there))

  -- a turn of the kind keeps a table orderly
  pub turn_goes : (s : Side) (c : Counters) (w : Worker I) (out : Turn I) → drawn w.phase ≡ s → TurnOf s w out → Goes c c w out.worker
  turn_goes Neither c w out d x = absurd x
  turn_goes Enqueuing c w out d (EnqueueTurn.went_on a k r p q) = keeps (cc) (cc)
  turn_goes Enqueuing c w out d (EnqueueTurn.gave_up a k p) = keeps (cc) (cc)
  turn_goes Enqueuing c w out d (EnqueueTurn.did_place i it a f) = rests (cc)
  turn_goes Dequeuing c w out d (DequeueTurn.went_on a k r p q) = keeps (cc) (cc)
  turn_goes Dequeuing c w out d (DequeueTurn.did_pass a k p) = keeps (cc) (cc)
  turn_goes Dequeuing c w out d (DequeueTurn.did_take i a f) = rests (cc)

  turn_item : (s : Side) (w : Worker I) (out : Turn I) → (s ≡ Enqueuing → (i : I) × (w.item ≡ Some i)) → TurnOf s w out
      → side out.worker.phase ≡ Enqueuing → (i : I) × (out.worker.item ≡ Some i)
  turn_item Neither w out c x e = absurd x
  turn_item Enqueuing w out c (EnqueueTurn.went_on a k r p q) e = let j = c refl in (j.0, cc)
  turn_item Enqueuing w out c (EnqueueTurn.gave_up a k p) e = let j = c refl in (j.0, cc)
  turn_item Enqueuing w out c (EnqueueTurn.did_place i it a f) e = cc
  turn_item Dequeuing w out c (DequeueTurn.went_on a k r p q) e = cc
  turn_item Dequeuing w out c (DequeueTurn.did_pass a k p) e = cc
  turn_item Dequeuing w out c (DequeueTurn.did_take i a f) e = cc

  pub orderly_turn : (step : KindStep I) (t : Table I) → Orderly t → TouchesItsOwn step t → (n : WorkerNo) (out : Turn I) → Turned step t n out → Orderly (then_table t n out)
  orderly_turn step t o law n out d =
      let e : drawn (worker t n).phase ≡ side (worker t n).phase = ap drawn d.inside ∙ sym (ap side d.inside) in
      let x = law.0 n out d in
      orderly_put t o t.counters (set t.cells (slot t.counters.cells (worker t n).ticket) out.cell) n d.there out.worker (grows_none t.counters)
      (turn_goes (side (worker t n).phase) t.counters (worker t n) out e x) (length-set t.cells (slot t.counters.cells (worker t n).ticket) out.cell)
      (turn_item (side (worker t n).phase) (worker t n) out (o.carries n d.there) x)
