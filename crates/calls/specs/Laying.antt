-- What laying out does, and why it refuses: 0 or over 1,024 cells (11), then 0 or over 64 records (12).
use Rattle.std.specs.Prelude.{ℕ, Bool, cond, ◌&&◌, List, length, Ok, Err, Result, nat_le}
use Rattle.ring.specs.declared.table.Cell.{Cell}
use Rattle.ring.specs.declared.table.Worker.{Worker}
use Rattle.ring.specs.declared.control.Control.{Control}
use Rattle.ring.specs.declared.answers.Refusal.{Refusal}
use Rattle.ring.specs.declared.answers.Refusal.TheVariants.{Ring, Crew}
use Rattle.ring.specs.Table.{Counters, Table, InRange, laid_out}
use Rattle.ring.specs.Ledger.{blank}
use Rattle.ring.specs.Books.{Sound}
use Rattle.engine.specs.Engine.{counters}
use Rattle.calls.specs.Promise.{table}

-- the counters or the refusal, and the memory after it
pub record Laying (I : Type 0) : Type 0 where
  pub control : Result Counters Refusal
  pub cells : List (Cell I)
  pub workers : List (Worker I)

-- what laying out came to, by what the control counts
abbrev pub counters_of : Result Control Refusal → Result Counters Refusal
counters_of (Ok c) = Ok (counters c)
counters_of (Err r) = Err r

-- a ring has 1 to 1,024 cells
abbrev pub ring_fits : ℕ → Bool
ring_fits r = nat_le 1 r && nat_le r 1024

-- a crew has 1 to 64 worker records
abbrev pub crew_fits : ℕ → Bool
crew_fits w = nat_le 1 w && nat_le w 64

module _ {I : Type 0} where
  -- refused: the memory is as it was
  abbrev pub unlaid : List (Cell I) → List (Worker I) → Refusal → Laying I
  unlaid cs ws r = record { control = Err r; cells = cs; workers = ws }

  -- done: the memory holds this table
  abbrev pub laid : Table I → Laying I
  laid t = record { control = Ok t.counters; cells = t.cells; workers = t.workers }

  -- a new table over the memory given, as many cells and workers as there are; 11 comes before 12
  abbrev pub laying : List (Cell I) → List (Worker I) → Laying I
  laying cs ws = cond (ring_fits (length cs)) (cond (crew_fits (length ws)) (laid (laid_out (length cs) (length ws))) (unlaid cs ws Crew)) (unlaid cs ws Ring)

  -- a table that is laid out has R and W in range, and with a blank ledger its books close
  abbrev pub Opens : Result Control Refusal → List (Cell I) → List (Worker I) → Type 0
  Opens (Ok c) cs ws = InRange c.cells c.workers × Sound (record { table = table c cs ws; ledger = blank })
  Opens (Err r) cs ws = Unit {0}
