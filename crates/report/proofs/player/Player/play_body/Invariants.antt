-- Whatever orders the body is the text of: the rest is the text of those to come, and they make of the run what all of them made.
use Rattle.std.proofs.Common.{◌≡◌, ◌+◌, ◌*◌, ◌≤◌, List, length}
use Rattle.play.specs.Orders.{PlainOrder}
use Rattle.play.specs.Text.{OrdersFit, orders_text}
use Rattle.report.specs.Playing.{playing}
use Rattle.report.specs.Running.{all_ordered}
use Rattle.report.proofs.player.Player.play_body.Given as goal

abbrev pub invariant-loop-order : goal.invariant-loop-order
invariant-loop-order g l =
    (l.self.calls + 9999 * length l.order-iterator.rest.now ≤ 599940000)
    × (l.order-iterator.items ≡ l.fn.items)
    × ((os : List PlainOrder) → l.fn.body ≡ orders_text os → OrdersFit l.fn.items os
    → (left : List PlainOrder) × (l.order-iterator.rest.now ≡ orders_text left) × OrdersFit l.fn.items left
    × (all_ordered g.I.ItemKind.text g.I.ItemKind.reading g.K.RingKind.step left (playing l.self)
    ≡ all_ordered g.I.ItemKind.text g.I.ItemKind.reading g.K.RingKind.step os (playing l.initial.self)))
