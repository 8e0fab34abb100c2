-- Which operation a phase belongs to.
use Rattle.std.specs.Prelude.{Bool, true, false}
use Rattle.ring.specs.declared.table.Side.{Side}
use Rattle.ring.specs.declared.table.Side.TheVariants.{Neither, Enqueuing, Dequeuing}
use Rattle.ring.specs.declared.table.EngineRow.{EngineRow}
use Rattle.ring.specs.declared.table.EngineRow.TheVariants.{E1, E2, E9, E10, D1, D9}
use Rattle.ring.specs.declared.table.KindRow.{KindRow}
use Rattle.ring.specs.declared.table.KindRow.TheVariants.{E3, E4, E5, E6, E7, E8, E11, D2, D3, D4, D5, D6, D7, D8}
use Rattle.ring.specs.declared.table.Phase.{Phase}
use Rattle.ring.specs.declared.table.Phase.TheVariants.{Idle, Engine, Kind}

-- of the engine's rows the E rows belong to an enqueue, the D rows to a dequeue
abbrev pub engine_side : EngineRow → Side
engine_side E1 = Enqueuing
engine_side E2 = Enqueuing
engine_side E9 = Enqueuing
engine_side E10 = Enqueuing
engine_side D1 = Dequeuing
engine_side D9 = Dequeuing

-- of the ring kind's rows the E rows belong to an enqueue, the D rows to a dequeue
abbrev pub kind_side : KindRow → Side
kind_side E3 = Enqueuing
kind_side E4 = Enqueuing
kind_side E5 = Enqueuing
kind_side E6 = Enqueuing
kind_side E7 = Enqueuing
kind_side E8 = Enqueuing
kind_side E11 = Enqueuing
kind_side D2 = Dequeuing
kind_side D3 = Dequeuing
kind_side D4 = Dequeuing
kind_side D5 = Dequeuing
kind_side D6 = Dequeuing
kind_side D7 = Dequeuing
kind_side D8 = Dequeuing

-- the operation of a phase; idle belongs to neither
abbrev pub side : Phase → Side
side Idle = Neither
side (Engine e) = engine_side e
side (Kind k) = kind_side k

-- the phase is idle
abbrev pub is_idle : Phase → Bool
is_idle Idle = true
is_idle (Engine e) = false
is_idle (Kind k) = false

-- not in one of the ring kind's phases
abbrev pub Outside : Phase → Type 0
Outside Idle = Unit {0}
Outside (Engine e) = Unit {0}
Outside (Kind k) = ⊥
