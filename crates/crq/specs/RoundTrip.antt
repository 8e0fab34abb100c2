-- Law 7 of CRQ.
use Rattle.std.specs.Prelude.{ℕ, ◌+◌, refl}
use Rattle.std.proofs.Common.{arith}
use Rattle.tickets.specs.declared.WorkerNo.{WorkerNo}
use Rattle.ring.specs.declared.table.Value.TheVariants.{Empty, Item}
use Rattle.ring.specs.declared.table.KindRow.TheVariants.{E3, E4, E6, D2, D3, D5}
use Rattle.ring.specs.declared.answers.Answer.TheVariants.{Placed, Taken}
use Rattle.ring.specs.Laws.{RoundTrip}
use Rattle.ring.specs.Table.{InRange, ticket, fresh_cell, idle_worker}
use Rattle.ring.proofs.Alone.{enqueue_in, dequeue_in}
use Rattle.ring.proofs.RoundTrip.{Runs, round_trip}
use Rattle.turns.proofs.FirstTicket.{at_epoch, small, small_item, enqueue_at, dequeue_at, works, last_turn, more_turns}
use Rattle.crq.specs.Rows.{crq_rows, crq_step}

module _ {I : Type 0} (r w : ℕ) (range : InRange r w) (n : WorkerNo) (i : I) where
  enqueue_runs : Runs crq_step r r n 3 (enqueue_in r i) fresh_cell (record { worker = idle_worker; cell = record { pair = at_epoch 1; value = Item i }; answer = Placed (ticket r) i })
  enqueue_runs =
      let f = small_item r w range in
      more_turns crq_rows r w range r n E3 (enqueue_in r i) fresh_cell (works (enqueue_at E4 r i (at_epoch 0) Empty) (at_epoch 0) Empty) refl refl _ 2 f refl
      (more_turns crq_rows r w range r n E4 _ _ (works (enqueue_at E6 r i (at_epoch 0) Empty) (at_epoch 0) Empty) refl refl _ 1 f refl
      (last_turn crq_rows r w range r n E6 _ _ _ refl refl f refl))

  dequeue_runs : Runs crq_step r (r + 1) n 3 (dequeue_in r) (record { pair = at_epoch 1; value = Item i }) (record { worker = idle_worker; cell = record { pair = at_epoch 2; value = Empty }; answer = Taken (ticket r) i })
  dequeue_runs =
      let f = small r w range in
      more_turns crq_rows r w range (r + 1) n D2 (dequeue_in r) (record { pair = at_epoch 1; value = Item i }) (works (dequeue_at D3 r (at_epoch 1) Empty) (at_epoch 1) (Item i)) refl refl _ 2 f refl
      (more_turns crq_rows r w range (r + 1) n D3 _ _ (works (dequeue_at D5 r (at_epoch 1) (Item i)) (at_epoch 1) (Item i)) refl refl _ 1 f refl
      (last_turn crq_rows r w range (r + 1) n D5 _ _ _ refl refl f refl))

pub crq_round_trip : {I : Type 0} → RoundTrip {I = I} crq_step
crq_round_trip r w range n m i b a = round_trip crq_step r w range n m i b a 3 3 (omega arith) (omega arith) _ _ (enqueue_runs r w range n i) (dequeue_runs r w range m i) refl
