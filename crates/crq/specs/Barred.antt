-- The tickets that CRQ can no longer place.
use Rattle.std.specs.Prelude.{◌≡◌, ℕ, ◌<◌, ◌≤◌, true, false, ◌⊎◌}
use Rattle.tickets.specs.declared.Ticket.{Ticket}
use Rattle.tickets.specs.declared.WorkerNo.{WorkerNo}
use Rattle.tickets.specs.Places.{round, slot}
use Rattle.ring.specs.declared.table.Pair.{Pair}
use Rattle.ring.specs.declared.table.Worker.{Worker}
use Rattle.ring.specs.declared.table.KindRow.TheVariants.{E6}
use Rattle.ring.specs.declared.table.Phase.TheVariants.{Kind}
use Rattle.ring.specs.Calls.{is_worker}
use Rattle.ring.specs.Table.{Table, worker, cell, occupied}

module _ {I : Type 0} where
  -- the worker is about to place its item in the cell of ticket k, under k or an earlier ticket, and has read the pair p there
  pub record AboutToPlace (r : ℕ) (k : Ticket) (p : Pair) (w : Worker I) : Type 0 where
    pub standing : w.phase ≡ Kind E6
    pub same_cell : slot r w.ticket ≡ slot r k
    pub not_later : w.ticket.0 ≤ k.0
    pub read : w.pair ≡ p

  -- nobody is, with the cell's pair still as read
  abbrev pub clear : Table I → Ticket → Type 0
  clear t k = (n : WorkerNo) → is_worker t n ≡ true → AboutToPlace t.counters.cells k (cell t k).pair (worker t n) → ⊥

  -- Head has passed the ticket and its cell is unsafe: the cell has an item, or is clear
  pub record Shut (t : Table I) (k : Ticket) : Type 0 where
    pub passed : k.0 < t.counters.head
    pub unsafe : (cell t k).pair.safe ≡ false
    pub guarded : (occupied (cell t k).value ≡ true) ⊎ clear t k

  -- the ticket's cell is in a later round already, or shut
  abbrev pub crq_barred : Table I → Ticket → Type 0
  crq_barred t k = ((round t.counters.cells k).0 < (cell t k).pair.epoch.0) ⊎ Shut t k
