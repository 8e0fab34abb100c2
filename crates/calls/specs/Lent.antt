-- A table as the code holds it: its parts, and the memory that it is lent.
use Rattle.std.specs.Prelude.{◌≡◌, ℕ, ◌-◌, ◌<◌, length, Ok, Err, Result}
use Rattle.tickets.specs.declared.WorkerNo.{WorkerNo}
use Rattle.ring.specs.declared.answers.Answer.{Answer}
use Rattle.ring.specs.declared.answers.Refusal.{Refusal}
use Rattle.ring.specs.Table.{Table}
use Rattle.ring.specs.Calls.{Outcome, for_worker, refused}
use Rattle.calls.specs.Promise.{table, left}
use Rattle.calls.specs.declared.table.Table.{Table as Lent}

module _ {I K : Type 0} where
  -- the table that it holds
  abbrev pub table_of : Lent I K → Table I
  table_of t = table t.control t.cells.now t.workers.now

  -- the table at the return, with the answer
  abbrev pub left_by : Lent I K → Result (Answer I) Refusal → Outcome I
  left_by t r = left t.control t.cells.now t.workers.now r

  -- it is still lent the same memory, for the same kind
  abbrev pub SameMemory : Lent I K → Lent I K → Type 0
  SameMemory t t' = (t'.kind ≡ t.kind) × (t'.cells.ghost_name ≡ t.cells.ghost_name) × (t'.workers.ghost_name ≡ t.workers.ghost_name)

module _ {I : Type 0} where
  -- a call by the worker n may go on with the record at this index
  pub record Admitted (t : Table I) (n : WorkerNo) (at : ℕ) : Type 0 where
    pub index : at ≡ n.0 - 1
    pub inside : at < length t.workers
    pub cells : length t.cells ≡ t.counters.cells
    pub goes_on : (done : Outcome I) → for_worker t n done ≡ done

  -- what the tests of every call come to: an index to go on with, or the call's refusal
  abbrev pub Admits : Table I → WorkerNo → Result ℕ Refusal → Type 0
  Admits t n (Ok at) = Admitted t n at
  Admits t n (Err r) = (done : Outcome I) → for_worker t n done ≡ refused t r
