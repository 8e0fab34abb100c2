-- A table as values: what the control counts, what the cells and the workers' records hold, and which tickets are held.
use Rattle.std.specs.Prelude.{◌≡◌, ℕ, ◌+◌, ◌-◌, ◌≤◌, Bool, true, false, List, [], ◌∷◌, replicate, None, slice_index_or}
use Rattle.tickets.specs.declared.Ticket.{Ticket}
use Rattle.tickets.specs.declared.WorkerNo.{WorkerNo}
use Rattle.tickets.specs.Places.{round, slot}
use Rattle.ring.specs.declared.table.Pair.{Pair}
use Rattle.ring.specs.declared.table.Cell.{Cell}
use Rattle.ring.specs.declared.table.Worker.{Worker}
use Rattle.ring.specs.declared.table.Value.{Value}
use Rattle.ring.specs.declared.table.Value.TheVariants.{Empty, Token, Item}
use Rattle.ring.specs.declared.table.Phase.TheVariants.{Idle}

-- R and W that a table may have
abbrev pub InRange : ℕ → ℕ → Type 0
InRange r w = (1 ≤ r) × (r ≤ 1024) × (1 ≤ w) × (w ≤ 64)

-- Head and Tail go up to this number, and tickets stay below it
abbrev pub counter_limit : ℕ
counter_limit = 1000000000000

-- R, W, Head, Tail and Closed
pub record Counters : Type 0 where
  pub cells : ℕ
  pub workers : ℕ
  pub head : ℕ
  pub tail : ℕ
  pub closed : Bool

-- what the control counts, the cells, and the workers' records
pub record Table (I : Type 0) : Type 0 where
  pub counters : Counters
  pub cells : List (Cell I)
  pub workers : List (Worker I)

-- the ticket with number k
abbrev pub ticket : ℕ → Ticket
ticket k = record { 0 = k }

-- not Safe, epoch 0: the pair of an idle record
abbrev pub idle_pair : Pair
idle_pair = record { safe = false; epoch = record { 0 = 0 } }

-- what a yes counts: 1, and a no 0
abbrev pub one_if : Bool → ℕ
one_if true = 1
one_if false = 0

module _ {I : Type 0} where
  -- Safe, epoch 0, empty
  abbrev pub fresh_cell : Cell I
  fresh_cell = record { pair = record { safe = true; epoch = record { 0 = 0 } }; value = Empty }

  -- idle, ticket 0, no item, the pair (not Safe, 0), the value empty
  abbrev pub idle_worker : Worker I
  idle_worker = record { phase = Idle; ticket = ticket 0; item = None; pair = idle_pair; value = Empty }

  -- a new table: Head and Tail at R, not closed
  abbrev pub laid_out : ℕ → ℕ → Table I
  laid_out r w =
      record {
        counters = record { cells = r; workers = w; head = r; tail = r; closed = false };
        cells = replicate r fresh_cell;
        workers = replicate w idle_worker;
      }

  -- the record of a worker; workers are numbered from 1
  abbrev pub worker : Table I → WorkerNo → Worker I
  worker t n = slice_index_or t.workers (n.0 - 1) idle_worker

  -- the cell of a ticket
  abbrev pub cell : Table I → Ticket → Cell I
  cell t k = slice_index_or t.cells (slot t.counters.cells k) fresh_cell

  -- a cell with an item is occupied; a token is none
  abbrev pub occupied : Value I → Bool
  occupied Empty = false
  occupied (Token n) = false
  occupied (Item i) = true

  -- how many cells are occupied
  abbrev pub occupied_cells : List (Cell I) → ℕ
  occupied_cells [] = 0
  occupied_cells (c ∷ cs) = one_if (occupied c.value) + occupied_cells cs

  -- a ticket is held with an item: its cell has the item, and the cell's epoch is the ticket's round
  abbrev pub Held : Table I → Ticket → I → Type 0
  Held t k i = ((cell t k).value ≡ Item i) × ((cell t k).pair.epoch ≡ round t.counters.cells k)
