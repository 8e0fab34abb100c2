-- The rows of the engine, for every ring kind: they see the counters and the worker's record w, whose ticket is t or h, and no cell.
use Rattle.std.specs.Prelude.{◌+◌, cond, Some, None, Ok, Err, Option, Result, ◌==◌, nat_le}
use Rattle.ring.specs.declared.table.Worker.{Worker}
use Rattle.ring.specs.declared.table.EngineRow.{EngineRow}
use Rattle.ring.specs.declared.table.EngineRow.TheVariants.{E1, E2, E9, E10, D1, D9}
use Rattle.ring.specs.declared.table.KindRow.TheVariants.{E3, D2}
use Rattle.ring.specs.declared.table.Phase.TheVariants.{Engine, Kind}
use Rattle.ring.specs.declared.answers.Answer.{Answer}
use Rattle.ring.specs.declared.answers.Answer.TheVariants.{Working, Empty, Full, Closed}
use Rattle.ring.specs.declared.answers.Refusal.{Refusal}
use Rattle.ring.specs.declared.answers.Refusal.TheVariants.{Misfit, Spent}
use Rattle.ring.specs.Table.{Counters, counter_limit, ticket}
use Rattle.ring.specs.Fields.{with_head, with_tail, shut, with_phase, with_ticket, finished}

-- what a row of the engine makes of the counters and the worker's record, with an answer
pub record EngineTurn (I : Type 0) : Type 0 where
  pub counters : Counters
  pub worker : Worker I
  pub answer : Answer I

module _ {I : Type 0} where
  -- a turn done: the counters, the record and the answer
  abbrev pub does : Counters → Worker I → Answer I → Result (EngineTurn I) Refusal
  does c w a = Ok (record { counters = c; worker = w; answer = a })

  -- the item of an enqueue, where it has one
  abbrev pub carrying : Option I → (I → Result (EngineTurn I) Refusal) → Result (EngineTurn I) Refusal
  carrying None f = Err Misfit
  carrying (Some i) f = f i

  -- E1: draw t from Tail, Tail grows by 1
  abbrev pub draw_tail : Counters → Worker I → Result (EngineTurn I) Refusal
  draw_tail c w =
      cond (c.tail == counter_limit) (Err Spent) (does (with_tail c (c.tail + 1)) (with_phase (with_ticket w (ticket c.tail)) (Engine E2)) Working)

  -- E2: read Closed
  abbrev pub read_closed : Counters → Worker I → Result (EngineTurn I) Refusal
  read_closed c w = cond c.closed (carrying w.item (λ i. does c (finished w) (Closed w.ticket i))) (does c (with_phase w (Kind E3)) Working)

  -- E9: read Head, and see whether t ≥ Head + R
  abbrev pub read_head : Counters → Worker I → Result (EngineTurn I) Refusal
  read_head c w = does c (with_phase w (cond (nat_le (c.head + c.cells) w.ticket.0) (Engine E10) (Engine E1))) Working

  -- E10: set Closed
  abbrev pub set_closed : Counters → Worker I → Result (EngineTurn I) Refusal
  set_closed c w = carrying w.item (λ i. does (shut c) (finished w) (Full w.ticket i))

  -- D1: draw h from Head, Head grows by 1
  abbrev pub draw_head : Counters → Worker I → Result (EngineTurn I) Refusal
  draw_head c w =
      cond (c.head == counter_limit) (Err Spent) (does (with_head c (c.head + 1)) (with_phase (with_ticket w (ticket c.head)) (Kind D2)) Working)

  -- D9: read Tail, and see whether Tail ≤ h + 1
  abbrev pub read_tail : Counters → Worker I → Result (EngineTurn I) Refusal
  read_tail c w = cond (nat_le c.tail (w.ticket.0 + 1)) (does c (finished w) (Empty w.ticket)) (does c (with_phase w (Engine D1)) Working)

  -- which row each of the engine's phases performs
  abbrev pub engine_row : Counters → Worker I → EngineRow → Result (EngineTurn I) Refusal
  engine_row c w E1 = draw_tail c w
  engine_row c w E2 = read_closed c w
  engine_row c w E9 = read_head c w
  engine_row c w E10 = set_closed c w
  engine_row c w D1 = draw_head c w
  engine_row c w D9 = read_tail c w
