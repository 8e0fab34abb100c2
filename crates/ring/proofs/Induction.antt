-- How a ring kind proves what holds of every table that calls led to, without looking at the engine's rows.
use Rattle.std.proofs.Common.{◌≡◌, ℕ, true, eqb, ltb, List, [], ◌∷◌, length, Ok, sym, refl, ap, ◌∙◌, subst, arith}
use Rattle.std.proofs.lemmas.Bool.{eq-eqb, lt-ltb, cond-true, and_from}
use Rattle.tickets.specs.declared.Ticket.{Ticket}
use Rattle.tickets.specs.declared.WorkerNo.{WorkerNo}
use Rattle.tickets.specs.Places.{slot}
use Rattle.ring.specs.declared.table.Cell.{Cell}
use Rattle.ring.specs.declared.table.Worker.{Worker}
use Rattle.ring.specs.declared.table.Side.{Side}
use Rattle.ring.specs.declared.table.Side.TheVariants.{Neither, Enqueuing, Dequeuing}
use Rattle.ring.specs.declared.table.KindRow.{KindRow}
use Rattle.ring.specs.declared.table.Phase.TheVariants.{Kind}
use Rattle.ring.specs.declared.call.Call.{Call}
use Rattle.ring.specs.declared.call.Call.TheVariants.{Step}
use Rattle.ring.specs.Table.{Table, InRange, counter_limit, laid_out, worker, cell}
use Rattle.ring.specs.Phases.{kind_side, side}
use Rattle.ring.specs.Turns.{Turn, KindStep}
use Rattle.ring.specs.Calls.{Outcome, turned, counts_agree, is_worker, carries, fit, row, called, after}
use Rattle.ring.specs.Laws.{Reached, Turned, Framed, then_table, TouchesItsOwn}
use Rattle.ring.proofs.Moves.{Move, Moved, move_table}
use Rattle.ring.proofs.Comes.{Comes, call_comes, refuses, moves, turns}
use Rattle.ring.proofs.Orderly.{Orderly, drawn}
use Rattle.ring.proofs.Writes.{each_put, each_cell}
use Rattle.ring.proofs.New.{orderly_new}
use Rattle.ring.proofs.Tickets.{orderly_move, orderly_turn}
use Rattle.ring.proofs.Frames.{move_framed}
use Rattle.ring.proofs.Lawful.{OfReached}

module _ {I : Type 0} where
  -- P holds of new tables
  abbrev pub OfNew : (Table I → Type 0) → Type 0
  OfNew P = (r w : ℕ) → InRange r w → P (laid_out r w)

  -- each turn of the kind keeps P
  abbrev pub KeptByTurns : KindStep I → (Table I → Type 0) → Type 0
  KeptByTurns step P =
      (t : Table I) (n : WorkerNo) (out : Turn I) → Reached step t → Orderly t → Orderly (then_table t n out) → Turned step t n out → P t → P (then_table t n out)

  -- each assignment and each row of the engine keeps P
  abbrev pub KeptByMoves : KindStep I → (Table I → Type 0) → Type 0
  KeptByMoves step P = (t : Table I) (n : WorkerNo) (m : Move I) → Reached step t → Orderly t → Orderly (move_table t n m) → Moved t n m → P t → P (move_table t n m)

  -- whatever a ring kind must bear keeps P
  abbrev pub KeptByFrames : KindStep I → (Table I → Type 0) → Type 0
  KeptByFrames step P = (t t' : Table I) → Reached step t → Orderly t → Orderly t' → Framed t t' → P t → P t'

module _ {I : Type 0} (step : KindStep I) where
  pub reached_call : (t : Table I) (c : Call I) → Reached step t → Reached step (called step t c).table
  reached_call t c r = record { ring = r.ring; crew = r.crew; in_range = r.in_range; calls = c ∷ r.calls; led = ap (λ u. (called step u c).table) r.led }

  pub by_calls : (P : Table I → Type 0) → OfNew P → ((t : Table I) (c : Call I) → Reached step t → P t → P (called step t c).table) → OfReached step P
  by_calls P new more t r = subst P r.led (go r.calls)
    where
      go : (cs : List (Call I)) → P (after step (laid_out r.ring r.crew) cs)
      go [] = new r.ring r.crew r.in_range
      go (c ∷ cs) =
          more (after step (laid_out r.ring r.crew) cs) c (record { ring = r.ring; crew = r.crew; in_range = r.in_range; calls = cs; led = refl }) (go cs)

  by_outcomes : (P : Table I → Type 0) → OfNew P → ((t : Table I) (n : WorkerNo) (out : Turn I) → Reached step t → Turned step t n out → P t → P (then_table t n out))
      → ((t : Table I) (n : WorkerNo) (m : Move I) → Reached step t → Moved t n m → P t → P (move_table t n m)) → OfReached step P
  by_outcomes P new turn move = by_calls P new (λ t c r p. go t r p c (called step t c) (call_comes step t c))
    where
      go : (t : Table I) → Reached step t → P t → (c : Call I) (o : Outcome I) → Comes step t c o → P o.table
      go t r p c x (refuses s e) = subst (λ (y : Outcome I). P y.table) (sym e) p
      go t r p c x (moves n m d b e) = subst (λ (y : Outcome I). P y.table) (sym e) (move t n m r d p)
      go t r p c x (turns n out d b e) = subst (λ (y : Outcome I). P y.table) (sym e) (turn t n out r d p)

  -- from law 1 alone
  module _ (touches : OfReached step (TouchesItsOwn step)) where
    pub reached_orderly : OfReached step Orderly
    reached_orderly = by_outcomes Orderly orderly_new (λ t n out r d o. orderly_turn step t o (touches t r) n out d) (λ t n m r d o. orderly_move t o n m d)

    -- the induction for ring kinds
    pub by_turns_and_moves : (P : Table I → Type 0) → OfNew P → KeptByTurns step P → KeptByMoves step P → OfReached step P
    by_turns_and_moves P new turn move =
        by_outcomes P new (λ t n out r d p. let o = reached_orderly t r in turn t n out r o (orderly_turn step t o (touches t r) n out d) d p)
        (λ t n m r d p. let o = reached_orderly t r in move t n m r o (orderly_move t o n m d) d p)

    -- the same for what a ring kind's own phases and the cells decide
    pub by_turns : (P : Table I → Type 0) → OfNew P → KeptByTurns step P → KeptByFrames step P → OfReached step P
    by_turns P new turn frame = by_turns_and_moves P new turn (λ t n m r o o' d p. frame t (move_table t n m) r o o' (move_framed t o n m d) p)

    -- a turn of the kind is one that calls lead to
    turn_fit : (t : Table I) → Orderly t → (n : WorkerNo) → is_worker t n ≡ true → (k : KindRow) → (worker t n).phase ≡ Kind k → (x : Side) → kind_side k ≡ x → fit (worker t n) x ≡ true
    turn_fit t o n b k p Neither e = refl
    turn_fit t o n b k p Enqueuing e =
        let r = o.enqueues n b (ap drawn p ∙ e) in
        and_from (ltb (worker t n).ticket.0 counter_limit) (carries (worker t n).item) (lt-ltb (worker t n).ticket.0 counter_limit (omega (arith, o.tail_to)))
        (ap carries (o.carries n b (ap side p ∙ e)).1)
    turn_fit t o n b k p Dequeuing e = let r = o.dequeues n b (ap drawn p ∙ e) in lt-ltb (worker t n).ticket.0 counter_limit (omega (arith, o.head_to))

    turn_called : (t : Table I) → Orderly t → (n : WorkerNo) (out : Turn I) → Turned step t n out → called step t (Step n) ≡ turned t n (worker t n).ticket (Ok out)
    turn_called t o n out d =
        cond-true (counts_agree t) _ _
        (and_from (eqb (length t.cells) t.counters.cells) (eqb (length t.workers) t.counters.workers) (eq-eqb (length t.cells) t.counters.cells o.ring)
        (eq-eqb (length t.workers) t.counters.workers o.crew))
        ∙ (cond-true (is_worker t n) _ _ d.there
        ∙ (ap (row step t n (worker t n)) d.inside
        ∙ ap (turned t n (worker t n).ticket)
        (cond-true (fit (worker t n) (kind_side d.standing)) _ _ (turn_fit t o n d.there d.standing d.inside (kind_side d.standing) refl) ∙ d.gave)))

    pub reached_turn : (t : Table I) → Reached step t → (n : WorkerNo) (out : Turn I) → Turned step t n out → Reached step (then_table t n out)
    reached_turn t r n out d = subst (λ (o : Outcome I). Reached step o.table) (turn_called t (reached_orderly t r) n out d) (reached_call t (Step n) r)

  -- how a turn's table is read: the worker that took it and the others, its ticket's cell and the others
  module _ (t : Table I) (o : Orderly t) (n : WorkerNo) (out : Turn I) (d : Turned step t n out) where
    pub each_worker_after : (Q : WorkerNo → Worker I → Type 0) → Q n out.worker → ((m : WorkerNo) → is_worker t m ≡ true → (m.0 ≡ n.0 → ⊥) → Q m (worker t m))
        → (m : WorkerNo) → is_worker t m ≡ true → Q m (worker (then_table t n out) m)
    each_worker_after = each_put t o t.counters (then_table t n out).cells n d.there out.worker

    pub each_cell_after : (Q : Ticket → Cell I → Type 0) → ((k : Ticket) → slot t.counters.cells k ≡ slot t.counters.cells (worker t n).ticket → Q k out.cell)
        → ((k : Ticket) → (slot t.counters.cells k ≡ slot t.counters.cells (worker t n).ticket → ⊥) → Q k (cell t k)) → (k : Ticket) → Q k (cell (then_table t n out) k)
    each_cell_after = each_cell t o (worker t n).ticket out.cell n out.worker
