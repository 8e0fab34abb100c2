-- Counters, workers' records and cells with a field changed. Rows write them through these alone, so that a new field touches no row.
use Rattle.std.specs.Prelude.{ℕ, true}
use Rattle.tickets.specs.declared.Ticket.{Ticket}
use Rattle.ring.specs.declared.table.Pair.{Pair}
use Rattle.ring.specs.declared.table.Cell.{Cell}
use Rattle.ring.specs.declared.table.Worker.{Worker}
use Rattle.ring.specs.declared.table.Value.{Value}
use Rattle.ring.specs.declared.table.Phase.{Phase}
use Rattle.ring.specs.Table.{Counters, idle_worker}

-- Head anew, all else as it was
abbrev pub with_head : Counters → ℕ → Counters
with_head c h = record { cells = c.cells; workers = c.workers; head = h; tail = c.tail; closed = c.closed }

-- Tail anew, all else as it was
abbrev pub with_tail : Counters → ℕ → Counters
with_tail c t = record { cells = c.cells; workers = c.workers; head = c.head; tail = t; closed = c.closed }

-- Closed on, all else as it was
abbrev pub shut : Counters → Counters
shut c = record { cells = c.cells; workers = c.workers; head = c.head; tail = c.tail; closed = true }

module _ {I : Type 0} where
  -- the worker's phase anew, all else as it was
  abbrev pub with_phase : Worker I → Phase → Worker I
  with_phase w p = record { phase = p; ticket = w.ticket; item = w.item; pair = w.pair; value = w.value }

  -- the worker's ticket anew, all else as it was
  abbrev pub with_ticket : Worker I → Ticket → Worker I
  with_ticket w k = record { phase = w.phase; ticket = k; item = w.item; pair = w.pair; value = w.value }

  -- the pair last read anew, all else as it was
  abbrev pub with_pair : Worker I → Pair → Worker I
  with_pair w p = record { phase = w.phase; ticket = w.ticket; item = w.item; pair = p; value = w.value }

  -- the value last read anew, all else as it was
  abbrev pub with_value : Worker I → Value I → Worker I
  with_value w v = record { phase = w.phase; ticket = w.ticket; item = w.item; pair = w.pair; value = v }

  -- the record of a worker whose operation has ended
  abbrev pub finished : Worker I → Worker I
  finished w = idle_worker

  -- the cell's value anew, its pair as it was
  abbrev pub with_cell_value : Cell I → Value I → Cell I
  with_cell_value c v = record { pair = c.pair; value = v }

  -- the cell's pair anew, its value as it was
  abbrev pub with_cell_pair : Cell I → Pair → Cell I
  with_cell_pair c p = record { pair = p; value = c.value }
