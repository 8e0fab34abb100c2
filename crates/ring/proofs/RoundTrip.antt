-- The round trip from the kind's own turns: a kind adds one turn for each row of its own.
use Rattle.std.proofs.Common.{◌≡◌, ℕ, suc, ◌+◌, ◌≤◌, true, Ok, refl, ap, ◌∙◌, subst, arith}
use Rattle.tickets.specs.declared.WorkerNo.{WorkerNo}
use Rattle.ring.specs.declared.table.Cell.{Cell}
use Rattle.ring.specs.declared.table.Worker.{Worker}
use Rattle.ring.specs.declared.table.KindRow.{KindRow}
use Rattle.ring.specs.declared.table.Phase.TheVariants.{Kind}
use Rattle.ring.specs.declared.answers.Answer.TheVariants.{Placed, Taken}
use Rattle.ring.specs.declared.call.Call.TheVariants.{AssignEnqueue, AssignDequeue}
use Rattle.ring.specs.Table.{Table, InRange, ticket, fresh_cell, idle_worker, laid_out}
use Rattle.ring.specs.Phases.{kind_side}
use Rattle.ring.specs.Turns.{Turn, KindStep}
use Rattle.ring.specs.Calls.{Outcome, is_worker, fit, called}
use Rattle.ring.specs.Laws.{ThereAndBack, alone}
use Rattle.ring.proofs.Alone.{Stands, enqueue_in, dequeue_in, turn_is, turn_stands, new_stands, hands_over, enqueue_comes, dequeue_comes}

module _ {I : Type 0} where
  -- a worker with the first ticket takes j turns alone, from its record v and the ticket's cell c; the last one gives out
  pub data Runs (step : KindStep I) (r head : ℕ) (n : WorkerNo) : ℕ → Worker I → Cell I → Turn I → Type 0 where
    last : (k : KindRow) (v : Worker I) (c : Cell I) (out : Turn I) → v.phase ≡ Kind k → v.ticket ≡ ticket r → fit v (kind_side k) ≡ true → step r head n v c ≡ Ok out
        → Runs step r head n 1 v c out
    more : (k : KindRow) (v : Worker I) (c : Cell I) (on out : Turn I) (j : ℕ) → v.phase ≡ Kind k → v.ticket ≡ ticket r → fit v (kind_side k) ≡ true → step r head n v c ≡ Ok on
        → Runs step r head n j on.worker on.cell out → Runs step r head n (suc j) v c out

  module _ (step : KindStep I) (r w : ℕ) (range : InRange r w) where
    runs_alone : (h l : ℕ) (n : WorkerNo) (t : Table I) (j : ℕ) (v : Worker I) (c : Cell I) (out : Turn I) → Runs step r h n j v c out → (q z : ℕ) → z ≡ q + j
        → Stands r w h l n (alone step t n q).table v c → ((alone step t n z).answer ≡ Ok out.answer) × Stands r w h l n (alone step t n z).table out.worker out.cell
    runs_alone h l n t j v c out (last k _ _ _ p f g e) q z y s =
        let x = turn_is step r w range h l n (alone step t n q).table v c s k out p f g e in
        let u : suc q ≡ z = omega arith in
        subst (λ a. ((alone step t n a).answer ≡ Ok out.answer) × Stands r w h l n (alone step t n a).table out.worker out.cell) u
        (ap (λ (a : Outcome I). a.answer) x, turn_stands step r w range h l n (alone step t n q).table v c s out _ x)
    runs_alone h l n t j v c out (more k _ _ on _ i p f g e rest) q z y s =
        let x = turn_is step r w range h l n (alone step t n q).table v c s k on p f g e in
        runs_alone h l n t i on.worker on.cell out rest (suc q) z (omega arith) (turn_stands step r w range h l n (alone step t n q).table v c s on _ x)

    -- law 7, from the turns of an enqueue and of a dequeue that come to the kind with the first ticket
    pub round_trip : (n m : WorkerNo) (i : I) → is_worker (laid_out {I = I} r w) n ≡ true → is_worker (laid_out {I = I} r w) m ≡ true → (j l : ℕ) → j ≤ 6 → l ≤ 7 → (c : Cell I) (out : Turn I)
        → Runs step r r n j (enqueue_in r i) fresh_cell (record { worker = idle_worker; cell = c; answer = Placed (ticket r) i })
        → Runs step r (r + 1) m l (dequeue_in r) c out → out.answer ≡ Taken (ticket r) i → ThereAndBack step r w n m i
    round_trip n m i b a j l f g c out x y e =
        let t = (called step (laid_out r w) (AssignEnqueue n i)).table in
        let p = runs_alone r (r + 1) n t j (enqueue_in r i) fresh_cell _ x 2 (2 + j) refl (enqueue_comes step r w range n (laid_out r w) fresh_cell i (new_stands step r w range n b)) in
        let u = (alone step t n (2 + j)).table in
        let q = runs_alone (r + 1) (r + 1) m (called step u (AssignDequeue m)).table l (dequeue_in r) c out y 1 (1 + l) refl
        (dequeue_comes step r w range (r + 1) m u c (hands_over step r w range r (r + 1) n m u c a p.1))
        in
        record {
          enqueue_steps = 2 + j;
          dequeue_steps = 1 + l;
          enqueue_few = omega arith;
          dequeue_few = omega arith;
          ticket = ticket r;
          places = p.0;
          takes = q.0 ∙ ap Ok e;
        }
