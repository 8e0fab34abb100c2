-- What a call on a table comes to: a refusal, a move of the engine, or a turn of the ring kind.
use Rattle.std.proofs.Common.{◌≡◌, ◌+◌, true, cond, eqb, leb, Some, None, Ok, Err, Option, Result, sym, refl}
use Rattle.std.proofs.lemmas.Bool.{cond_both, leb-true, leb-false, eqb-false}
use Rattle.tickets.specs.declared.WorkerNo.{WorkerNo}
use Rattle.ring.specs.declared.table.EngineRow.{EngineRow}
use Rattle.ring.specs.declared.table.EngineRow.TheVariants.{E1, E2, E9, E10, D1, D9}
use Rattle.ring.specs.declared.table.KindRow.{KindRow}
use Rattle.ring.specs.declared.table.Phase.{Phase}
use Rattle.ring.specs.declared.table.Phase.TheVariants.{Idle, Engine, Kind}
use Rattle.ring.specs.declared.answers.Answer.TheVariants.{Working, Full, Closed}
use Rattle.ring.specs.declared.answers.Refusal.{Refusal}
use Rattle.ring.specs.declared.answers.Refusal.TheVariants.{Misfit, Nobody, Busy, Spent}
use Rattle.ring.specs.declared.call.Call.{Call}
use Rattle.ring.specs.declared.call.Call.TheVariants.{AssignEnqueue, AssignDequeue, Step}
use Rattle.ring.specs.Table.{Table, counter_limit, worker, cell}
use Rattle.ring.specs.Phases.{engine_side, kind_side, is_idle}
use Rattle.ring.specs.Fields.{shut, with_phase, finished}
use Rattle.ring.specs.Turns.{Turn, KindStep}
use Rattle.ring.specs.Rows.{EngineTurn, does, carrying, engine_row}
use Rattle.ring.specs.Calls.{Outcome, refused, engine_turned, turned, counts_agree, is_worker, for_worker, fit, row, called}
use Rattle.ring.specs.Laws.{Turned}
use Rattle.ring.proofs.Moves.{Move, Moved, move_from, Found, move_call, move_outcome, gets_enqueue, gets_dequeue, draws_tail, finds_open, finds_closed, finds_room, finds_full, shuts, draws_head, finds_more, finds_empty}

module _ {I : Type 0} where
  pub data Comes (step : KindStep I) (t : Table I) (c : Call I) (o : Outcome I) : Type 0 where
    refuses : (r : Refusal) → o ≡ refused t r → Comes step t c o
    moves : (n : WorkerNo) (m : Move I) → Moved t n m → c ≡ move_call m n → o ≡ move_outcome t n m → Comes step t c o
    turns : (n : WorkerNo) (out : Turn I) → Turned step t n out → c ≡ Step n → o ≡ turned t n (worker t n).ticket (Ok out) → Comes step t c o

module _ {I : Type 0} (step : KindStep I) (t : Table I) where
  for_worker_comes : (c : Call I) (n : WorkerNo) (o : Outcome I) → (is_worker t n ≡ true → Comes step t c o) → Comes step t c (for_worker t n o)
  for_worker_comes c n o k =
      cond_both (counts_agree t) (cond (is_worker t n) o (refused t Nobody)) (refused t Misfit) (Comes step t c)
      (λ _. cond_both (is_worker t n) o (refused t Nobody) (Comes step t c) k (λ _. refuses Nobody refl)) (λ _. refuses Misfit refl)

  idle_from : (p : Phase) → is_idle p ≡ true → p ≡ Idle
  idle_from Idle e = refl
  idle_from (Engine e') e = cc
  idle_from (Kind k) e = cc

  module _ (n : WorkerNo) (there : is_worker t n ≡ true) where
    turn_comes : (k : KindRow) → (worker t n).phase ≡ Kind k → (x : Result (Turn I) Refusal)
        → step t.counters.cells t.counters.head n (worker t n) (cell t (worker t n).ticket) ≡ x
        → Comes step t (Step n) (turned t n (worker t n).ticket x)
    turn_comes k p (Err r) e = refuses r refl
    turn_comes k p (Ok out) e = turns n out (record { there = there; standing = k; inside = p; gave = e }) refl refl

    -- a turn of the engine comes to what its result comes to
    abbrev EngineComes : Result (EngineTurn I) Refusal → Type 0
    EngineComes x = Comes step t (Step n) (engine_turned t n x)

    made : (m : Move I) → (worker t n).phase ≡ move_from m → Found m t.counters (worker t n) → move_call m n ≡ Step n → Comes step t (Step n) (move_outcome t n m)
    made m p f e = moves n m (record { there = there; standing = p; found = f }) (sym e) refl

    closed_comes : (worker t n).phase ≡ Engine E2 → t.counters.closed ≡ true → (o : Option I) → (worker t n).item ≡ o
        → EngineComes (carrying o (λ i. does t.counters (finished (worker t n)) (Closed (worker t n).ticket i)))
    closed_comes p s None e = refuses Misfit refl
    closed_comes p s (Some i) e = made (finds_closed i) p (s, e) refl

    full_comes : (worker t n).phase ≡ Engine E10 → (o : Option I) → (worker t n).item ≡ o
        → EngineComes (carrying o (λ i. does (shut t.counters) (finished (worker t n)) (Full (worker t n).ticket i)))
    full_comes p None e = refuses Misfit refl
    full_comes p (Some i) e = made (shuts i) p e refl

    engine_comes : (e : EngineRow) → (worker t n).phase ≡ Engine e → EngineComes (engine_row t.counters (worker t n) e)
    engine_comes E1 e =
        cond_both (eqb t.counters.tail counter_limit) _ _ EngineComes (λ _. refuses Spent refl)
        (λ f. made draws_tail e (eqb-false t.counters.tail counter_limit f) refl)
    engine_comes E2 e = cond_both t.counters.closed _ _ EngineComes (λ f. closed_comes e f (worker t n).item refl) (λ f. made finds_open e f refl)
    engine_comes E9 e =
        cond_both (leb (t.counters.head + t.counters.cells) (worker t n).ticket.0) (Engine E10) (Engine E1)
        (λ p. EngineComes (does t.counters (with_phase (worker t n) p) Working))
        (λ f. made finds_full e (leb-true (t.counters.head + t.counters.cells) (worker t n).ticket.0 f) refl)
        (λ f. made finds_room e (leb-false (t.counters.head + t.counters.cells) (worker t n).ticket.0 f) refl)
    engine_comes E10 e = full_comes e (worker t n).item refl
    engine_comes D1 e =
        cond_both (eqb t.counters.head counter_limit) _ _ EngineComes (λ _. refuses Spent refl)
        (λ f. made draws_head e (eqb-false t.counters.head counter_limit f) refl)
    engine_comes D9 e =
        cond_both (leb t.counters.tail ((worker t n).ticket.0 + 1)) _ _ EngineComes
        (λ f. made finds_empty e (leb-true t.counters.tail ((worker t n).ticket.0 + 1) f) refl)
        (λ f. made finds_more e (leb-false t.counters.tail ((worker t n).ticket.0 + 1) f) refl)

    row_comes : (p : Phase) → (worker t n).phase ≡ p → Comes step t (Step n) (row step t n (worker t n) p)
    row_comes Idle e = refuses Refusal.Idle refl
    row_comes (Engine x) e = cond_both (fit (worker t n) (engine_side x)) _ _ EngineComes (λ _. engine_comes x e) (λ _. refuses Misfit refl)
    row_comes (Kind k) e =
        cond_both (fit (worker t n) (kind_side k)) _ _ (λ x. Comes step t (Step n) (turned t n (worker t n).ticket x)) (λ _. turn_comes k e _ refl)
        (λ _. refuses Misfit refl)

    assign_comes : (m : Move I) → move_from m ≡ Idle → Found m t.counters (worker t n)
        → Comes step t (move_call m n) (cond (is_idle (worker t n).phase) (move_outcome t n m) (refused t Busy))
    assign_comes m e f =
        cond_both (is_idle (worker t n).phase) _ _ (Comes step t (move_call m n))
        (λ b. moves n m (record { there = there; standing = cc (idle_from (worker t n).phase b); found = f }) refl refl) (λ _. refuses Busy refl)

  pub call_comes : (c : Call I) → Comes step t c (called step t c)
  call_comes (AssignEnqueue n i) = for_worker_comes (AssignEnqueue n i) n _ (λ b. assign_comes n b (gets_enqueue i) refl tt)
  call_comes (AssignDequeue n) = for_worker_comes (AssignDequeue n) n _ (λ b. assign_comes n b gets_dequeue refl tt)
  call_comes (Step n) = for_worker_comes (Step n) n _ (λ b. row_comes n b (worker t n).phase refl)
