-- What a row of the engine, in code, leaves in the control and the record that it is lent.
use Rattle.std.specs.Prelude.{◌≡◌, Ok, Err, Result}
use Rattle.ring.specs.declared.table.Worker.{Worker}
use Rattle.ring.specs.declared.control.Control.{Control}
use Rattle.ring.specs.declared.answers.Answer.{Answer}
use Rattle.ring.specs.declared.answers.Refusal.{Refusal}
use Rattle.ring.specs.Table.{Counters}
use Rattle.ring.specs.Rows.{EngineTurn}
use Rattle.ring.specs.Calls.{row}

-- what a control counts
abbrev pub counters : Control → Counters
counters c = record { cells = c.cells; workers = c.workers; head = c.head; tail = c.tail; closed = c.closed }

module _ {I : Type 0} where
  -- what a turn answers, or its refusal
  abbrev pub engine_answer : Result (EngineTurn I) Refusal → Result (Answer I) Refusal
  engine_answer (Ok out) = Ok out.answer
  engine_answer (Err r) = Err r

  -- the counters after a turn; a refusal leaves them
  abbrev pub engine_counters : Result (EngineTurn I) Refusal → Counters → Counters
  engine_counters (Ok out) c = out.counters
  engine_counters (Err r) c = c

  -- the worker's record after a turn; a refusal leaves it
  abbrev pub engine_worker : Result (EngineTurn I) Refusal → Worker I → Worker I
  engine_worker (Ok out) w = out.worker
  engine_worker (Err r) w = w

  -- the turn was performed: the answer r, and the counters and the record as they are left. A refusal leaves both as they were
  pub record EnginePerformed (turn : Result (EngineTurn I) Refusal) (c : Counters) (w : Worker I) (r : Result (Answer I) Refusal) (c' : Counters) (w' : Worker I) : Type 0 where
    pub answer : r ≡ engine_answer turn
    pub counters : c' ≡ engine_counters turn c
    pub worker : w' ≡ engine_worker turn w

  -- the row was performed on a control and a record
  abbrev pub Does : (Counters → Worker I → Result (EngineTurn I) Refusal) → Control → Worker I → Result (Answer I) Refusal → Control → Worker I → Type 0
  Does row c w r c' w' = EnginePerformed (row (counters c) w) (counters c) w r (counters c') w'
