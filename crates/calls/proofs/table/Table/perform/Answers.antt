use Rattle.std.proofs.Common.{refl, arith}
use Rattle.engine.specs.Engine.{counters}
use Rattle.calls.specs.Lent.{table_of}
use Rattle.calls.proofs.Ways.{engine_done, kind_done}
use Rattle.calls.proofs.table.Table.perform.Goals as goal

pub returns-in-Engine-clause-rows : goal.returns-in-Engine-clause-rows
returns-in-Engine-clause-rows g c =
    engine_done g.K.RingKind.step (table_of c.args.self.now) c.args.number c.in_ok-at.at _ _ c.in-Engine.row c.engine_turn-reply.result
    (counters c.engine_turn-reply.new.control) c.engine_turn-reply.new.worker (c.in_ok-at.ensures.tests c.args.self.now.cells.now refl) c.in-Engine.is c.engine_turn-reply.ensures

pub returns-in-Kind-clause-rows : goal.returns-in-Kind-clause-rows
returns-in-Kind-clause-rows g c =
    kind_done g.K.RingKind.step (table_of c.args.self.now) c.args.number c.in_ok-at.at c.slot-slot.result _ _ _ _ c.in-Kind.row c.kind_turn.result
    c.kind_turn.new.cell c.kind_turn.new.worker (c.in_ok-at.ensures.tests c.args.self.now.cells.now refl) c.in-Kind.is c.slot-slot.ensures.value
    (omega (arith, c.slot-slot.ensures.bound, (c.in_ok-at.ensures.tests c.args.self.now.cells.now refl).cells)) c.kind_turn.ensures
