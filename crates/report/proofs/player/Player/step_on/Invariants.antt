-- What the steps to come make of the run is what all of them made of it.
use Rattle.std.proofs.Common.{◌≡◌, ◌+◌, ◌-◌, ◌≤◌}
use Rattle.report.specs.Playing.{playing}
use Rattle.report.specs.Running.{stepping}
use Rattle.report.proofs.player.Player.step_on.Given as goal

abbrev pub invariant-loop-step : goal.invariant-loop-step
invariant-loop-step g l =
    (l.self.calls ≤ l.initial.self.calls + l._step)
    × (stepping g.I.ItemKind.text g.K.RingKind.step l.worker (l.count - l._step) (playing l.self)
    ≡ stepping g.I.ItemKind.text g.K.RingKind.step l.worker l.count (playing l.initial.self))
