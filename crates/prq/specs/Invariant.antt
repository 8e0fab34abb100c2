-- Every table that calls with PRQ led to keeps every worker's promise.
use Rattle.std.specs.Prelude.{◌≡◌, refl}
use Rattle.std.proofs.Common.{sym, ap, subst}
use Rattle.tickets.specs.declared.WorkerNo.{WorkerNo}
use Rattle.tickets.specs.Places.{slot}
use Rattle.ring.specs.declared.table.Phase.{Phase}
use Rattle.ring.specs.declared.table.Worker.{Worker}
use Rattle.ring.specs.declared.table.Phase.TheVariants.{Idle, Engine, Kind}
use Rattle.ring.specs.Laws.{Reached, Turned, then_table}
use Rattle.ring.specs.Table.{Table, idle_worker, laid_out, worker, cell}
use Rattle.ring.specs.Turns.{Turn}
use Rattle.ring.proofs.Induction.{OfNew, by_turns, each_worker_after, reached_orderly}
use Rattle.ring.proofs.Lawful.{OfReached}
use Rattle.ring.proofs.New.{new_worker}
use Rattle.ring.proofs.Orderly.{Orderly}
use Rattle.ring.proofs.Writes.{cell_here}
use Rattle.prq.specs.Rows.{prq_step}
use Rattle.prq.specs.AfterTurn.{own_promise, ticket_kept}
use Rattle.prq.specs.Framed.{frame_kept}
use Rattle.prq.specs.Others.{other_kept}
use Rattle.prq.specs.Own.{self_kept}
use Rattle.prq.specs.Promises.{AtRow, AtPhase, Promise, Promised}
use Rattle.prq.specs.Turns.{did_turn, touches}

module _ {I : Type 0} where
  module _ (t : Table I) (o : Orderly t) (inv : Promised t) (n : WorkerNo) where
    pub turn_kept : (out : Turn I) → Turned prq_step t n out → Promised (then_table t n out)
    turn_kept out d m b =
        each_worker_after prq_step t o n out d (λ k v. Promise (then_table t n out) k v (cell (then_table t n out) v.ticket))
        (go out.worker.phase refl (self_kept t o inv n out d d.standing refl (did_turn t n out d) (own_promise t o inv n out d))) (other_kept t o inv n out d) m b
      where
        go : (p : Phase) → out.worker.phase ≡ p → AtPhase (then_table t n out) n out.worker out.cell p
            → AtPhase (then_table t n out) n out.worker (cell (then_table t n out) out.worker.ticket) p
        go Idle e a = tt
        go (Engine x) e a = tt
        go (Kind j) e a =
            subst (λ z. AtRow (then_table t n out) n out.worker z j)
            (sym (cell_here t o (worker t n).ticket out.cell n out.worker out.worker.ticket (ap (slot t.counters.cells) (ticket_kept t o inv n out d j e)))) a

new_kept : (I : Type 0) → OfNew {I = I} Promised
new_kept I r w h m b =
    let e : worker (laid_out {I = I} r w) m ≡ idle_worker = new_worker r w m b in
    subst (λ (v : Worker I). Promise (laid_out r w) m v (cell (laid_out r w) v.ticket)) (sym e) tt

module _ {I : Type 0} where
  pub reached_kept : OfReached {I = I} prq_step Promised
  reached_kept =
      by_turns prq_step (λ t _. touches t) Promised (new_kept I) (λ t n out _ o _ d p. turn_kept t o p n out d) (λ t t' _ _ _ f p. frame_kept t t' f p)

  -- what holds of every orderly table with its promises kept holds of every table that calls with PRQ led to
  pub when_reached : {P : Table I → Type 0} → ((t : Table I) → Orderly t → Promised t → P t) → (t : Table I) → Reached prq_step t → P t
  when_reached f t r = f t (reached_orderly prq_step (λ u _. touches u) t r) (reached_kept t r)
