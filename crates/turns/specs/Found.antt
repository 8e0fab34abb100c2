-- A row performed on what a turn of a worker finds.
use Rattle.std.specs.Prelude.{ℕ, cond, Ok, Err, Result, nat_lt}
use Rattle.tickets.specs.declared.WorkerNo.{WorkerNo}
use Rattle.tickets.specs.Places.{round}
use Rattle.ring.specs.declared.table.Cell.{Cell}
use Rattle.ring.specs.declared.table.KindRow.{KindRow}
use Rattle.ring.specs.declared.table.Phase.{Phase}
use Rattle.ring.specs.declared.table.Worker.{Worker}
use Rattle.ring.specs.declared.table.Phase.TheVariants.{Idle, Engine, Kind}
use Rattle.ring.specs.declared.answers.Answer.{Answer}
use Rattle.ring.specs.declared.answers.Refusal.{Refusal}
use Rattle.ring.specs.declared.answers.Refusal.TheVariants.{Misfit}
use Rattle.ring.specs.Table.{counter_limit}
use Rattle.ring.specs.Turns.{Performed, KindRows}
use Rattle.turns.specs.declared.found.Found.{Found}

-- the row k of these rows was performed on the record w and the cell s: the answer r, and both as they are left
abbrev pub RowDone : {I : Type 0} → KindRows I → Found → KindRow → Worker I → Cell I → Result (Answer I) Refusal → Worker I → Cell I → Type 0
RowDone rows f k w s r w' s' = Performed (rows f.head f.number w s f.round k) w s r w' s'

-- what a turn finds: Head, the worker's number, and its ticket's round
abbrev pub finds : {I : Type 0} → ℕ → ℕ → WorkerNo → Worker I → Found
finds r head n w = record { head = head; number = n; round = round r w.ticket }

-- the row of a kind's phase; any other phase is refused (13)
abbrev row_at : Phase → Result KindRow Refusal
row_at Idle = Err Misfit
row_at (Engine e) = Err Misfit
row_at (Kind k) = Ok k

-- the row that a step of this worker performs; 13 also on a ticket above the limit
abbrev pub row_of : {I : Type 0} → Worker I → Result KindRow Refusal
row_of w = cond (nat_lt w.ticket.0 counter_limit) (row_at w.phase) (Err Misfit)
