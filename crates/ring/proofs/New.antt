-- A new table.
use Rattle.std.proofs.Common.{◌≡◌, ℕ, ◌-◌, ◌%◌, ◌≤◌, true, mod-lt, arith}
use lib.ListN.{length-replicate}
use Rattle.std.proofs.lemmas.List.{get_or-replicate}
use Rattle.tickets.specs.declared.Ticket.{Ticket}
use Rattle.tickets.specs.declared.WorkerNo.{WorkerNo}
use Rattle.ring.specs.Table.{InRange, fresh_cell, idle_worker, laid_out, worker, cell}
use Rattle.ring.specs.Calls.{is_worker}
use Rattle.ring.proofs.Orderly.{Orderly, worker_range}

module _ {I : Type 0} where
  pub new_worker : (r w : ℕ) (n : WorkerNo) → is_worker (laid_out {I = I} r w) n ≡ true → worker (laid_out {I = I} r w) n ≡ idle_worker
  new_worker r w n b = let p = worker_range (laid_out {I = I} r w) n b in get_or-replicate w (n.0 - 1) idle_worker idle_worker (omega arith)

  pub new_cell : (r w : ℕ) (k : Ticket) → 1 ≤ r → cell (laid_out {I = I} r w) k ≡ fresh_cell
  new_cell r w k h = get_or-replicate r (k.0 % r) fresh_cell fresh_cell (mod-lt k.0 h)

  pub orderly_new : (r w : ℕ) → InRange r w → Orderly (laid_out {I = I} r w)
  orderly_new r w h =
      record {
        in_range = h;
        ring = length-replicate r _;
        crew = length-replicate w _;
        head_from = omega arith;
        head_to = omega arith;
        tail_from = omega arith;
        tail_to = omega arith;
        carries = λ n b e. let i = new_worker r w n b in cc;
        enqueues = λ n b e. let i = new_worker r w n b in cc;
        dequeues = λ n b e. let i = new_worker r w n b in cc;
        apart = λ n m b a h d f e. let i = new_worker r w n b in f (cc);
      }
