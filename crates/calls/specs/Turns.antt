-- A turn on the caller's memory: what it leaves of the counters, the cells and the records.
use Rattle.std.specs.Prelude.{◌≡◌, ℕ, List, Result, slice_index_or, slice_set}
use Rattle.ring.specs.declared.table.Cell.{Cell}
use Rattle.ring.specs.declared.table.Worker.{Worker}
use Rattle.ring.specs.declared.answers.Answer.{Answer}
use Rattle.ring.specs.declared.answers.Refusal.{Refusal}
use Rattle.ring.specs.Table.{Counters, fresh_cell, idle_worker}
use Rattle.ring.specs.Turns.{Turn, turn_answer, turn_worker, turn_cell}
use Rattle.ring.specs.Rows.{EngineTurn}
use Rattle.engine.specs.Engine.{engine_answer, engine_counters, engine_worker}

module _ {I : Type 0} where
  -- a turn of the engine on the record with index at
  pub record EngineAt (turn : Result (EngineTurn I) Refusal) (c : Counters) (ws : List (Worker I)) (at : ℕ) (r : Result (Answer I) Refusal) (c' : Counters) (ws' : List (Worker I)) : Type 0 where
    pub answer : r ≡ engine_answer turn
    pub counters : c' ≡ engine_counters turn c
    pub workers : ws' ≡ slice_set ws at (engine_worker turn (slice_index_or ws at idle_worker))

  -- a turn of the ring kind on the record with index at and the cell with index k
  pub record KindAt (turn : Result (Turn I) Refusal) (cs : List (Cell I)) (ws : List (Worker I)) (k at : ℕ) (r : Result (Answer I) Refusal) (cs' : List (Cell I)) (ws' : List (Worker I)) : Type 0 where
    pub answer : r ≡ turn_answer turn
    pub cells : cs' ≡ slice_set cs k (turn_cell turn (slice_index_or cs k fresh_cell))
    pub workers : ws' ≡ slice_set ws at (turn_worker turn (slice_index_or ws at idle_worker))
