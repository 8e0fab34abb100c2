-- Law 7 of PRQ.
use Rattle.std.specs.Prelude.{ℕ, ◌+◌, ◌==◌, refl}
use Rattle.std.proofs.Common.{arith}
use Rattle.std.proofs.lemmas.Bool.{eq-eqb, cond-true}
use Rattle.tickets.specs.declared.WorkerNo.{WorkerNo}
use Rattle.ring.specs.declared.table.Value.TheVariants.{Empty, Token, Item}
use Rattle.ring.specs.declared.table.KindRow.TheVariants.{E3, E4, E6, E7, E8, D2, D3, D4, D5}
use Rattle.ring.specs.declared.answers.Answer.TheVariants.{Placed, Taken}
use Rattle.ring.specs.Laws.{RoundTrip}
use Rattle.ring.specs.Table.{InRange, ticket, fresh_cell, idle_worker}
use Rattle.ring.proofs.Alone.{enqueue_in, dequeue_in}
use Rattle.ring.proofs.RoundTrip.{Runs, round_trip}
use Rattle.turns.proofs.FirstTicket.{at_epoch, enqueue_at, dequeue_at, works, small, small_item, last_turn, more_turns}
use Rattle.prq.specs.Rows.{prq_rows, prq_step}

module _ {I : Type 0} (r w : ℕ) (range : InRange r w) (n : WorkerNo) (i : I) where
  enqueue_runs : Runs prq_step r r n 5 (enqueue_in r i) fresh_cell (record { worker = idle_worker; cell = record { pair = at_epoch 1; value = Item i }; answer = Placed (ticket r) i })
  enqueue_runs =
      let f = small_item r w range in
      more_turns prq_rows r w range r n E3 (enqueue_in r i) fresh_cell (works (enqueue_at E4 r i (at_epoch 0) Empty) (at_epoch 0) Empty) refl refl _ 4 f refl
      (more_turns prq_rows r w range r n E4 _ _ (works (enqueue_at E6 r i (at_epoch 0) Empty) (at_epoch 0) Empty) refl refl _ 3 f refl
      (more_turns prq_rows r w range r n E6 _ _ (works (enqueue_at E7 r i (at_epoch 0) Empty) (at_epoch 0) (Token n)) refl refl _ 2 f refl
      (more_turns prq_rows r w range r n E7 _ _ (works (enqueue_at E8 r i (at_epoch 0) Empty) (at_epoch 1) (Token n)) refl refl _ 1 f refl
      (last_turn prq_rows r w range r n E8 _ _ _ refl refl f (cond-true (n.0 == n.0) _ _ (eq-eqb n.0 n.0 refl))))))

  dequeue_runs : Runs prq_step r (r + 1) n 4 (dequeue_in r) (record { pair = at_epoch 1; value = Item i }) (record { worker = idle_worker; cell = record { pair = at_epoch 1; value = Empty }; answer = Taken (ticket r) i })
  dequeue_runs =
      let f = small r w range in
      more_turns prq_rows r w range (r + 1) n D2 (dequeue_in r) (record { pair = at_epoch 1; value = Item i }) (works (dequeue_at D3 r (at_epoch 1) Empty) (at_epoch 1) (Item i)) refl refl _ 3 f refl
      (more_turns prq_rows r w range (r + 1) n D3 _ _ (works (dequeue_at D4 r (at_epoch 1) (Item i)) (at_epoch 1) (Item i)) refl refl _ 2 f refl
      (more_turns prq_rows r w range (r + 1) n D4 _ _ (works (dequeue_at D5 r (at_epoch 1) (Item i)) (at_epoch 1) (Item i)) refl refl _ 1 f refl
      (last_turn prq_rows r w range (r + 1) n D5 _ _ _ refl refl f refl)))

pub prq_round_trip : {I : Type 0} → RoundTrip {I = I} prq_step
prq_round_trip r w range n m i b a = round_trip prq_step r w range n m i b a 5 4 (omega arith) (omega arith) _ _ (enqueue_runs r w range n i) (dequeue_runs r w range m i) refl
