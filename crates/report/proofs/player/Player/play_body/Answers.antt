-- By the order whose text stands in front of the rest.
use Rattle.std.proofs.Common.{Some, None, sym, ap, ◌∙◌, subst, arith}
use Rattle.std.proofs.lemmas.Result.{err_from_is_err_and}
use Rattle.play.specs.declared.next.Next.{Next}
use Rattle.play.specs.Orders.{plain}
use Rattle.play.specs.Promise.{FirstOrder}
use Rattle.play.proofs.ItemKinds.{item_laws}
use Rattle.play.proofs.NextOrder.{next_some, next_none}
use Rattle.report.specs.Playing.{playing}
use Rattle.report.specs.Running.{Running, ordered, all_ordered}
use Rattle.report.proofs.Errors.{failed_on}
use Rattle.report.proofs.Orders.{order_few, order_shorter, orders_unwritten}
use Rattle.report.proofs.player.Player.play_body.Goals as goal

pub returns-in_err-play_order : goal.returns-in_err-play_order
returns-in_err-play_order g c = λ os e f.
    let p = err_from_is_err_and c.from_residual.result c.from_residual.ensures.1 in
    let all = all_ordered g.I.ItemKind.text g.I.ItemKind.reading g.K.RingKind.step in
    let s = playing c.loop-order.self in
    let s0 = playing c.args.self.now in
    let t = ordered g.I.ItemKind.text g.I.ItemKind.reading g.K.RingKind.step (plain c.in-Some.order) s in
    let k = c.loop-order.invariant.2 os e f in
    let rest = c.loop-order.order-iterator.rest.now in
    let next : Next = record { order = c.in-Some.order; rest = c.next.new.self.rest } in
    let said = subst (λ x. FirstOrder x rest (Some next)) c.loop-order.invariant.1 c.in-Some.ensures.steps.1 in
    let front = next_some item_laws c.args.items rest next k.0 said k.1 k.2 in
    rw (p.1, p.2)
    (failed_on c.in_err-play_order.field-0.0 t (all os s0) c.in_err-play_order.ensures.ran
    (λ h. ap (λ (x : Running g.row.I.Denot). x.written) (sym k.3 ∙ ap (λ l. all l s) front.are) ∙ orders_unwritten g.I.ItemKind.text g.I.ItemKind.reading g.K.RingKind.step front.others t h))

pub loop-order-preserved : goal.loop-order-preserved
loop-order-preserved g c =
    let all = all_ordered g.I.ItemKind.text g.I.ItemKind.reading g.K.RingKind.step in
    let s = playing c.loop-order.self in
    let rest = c.loop-order.order-iterator.rest.now in
    let next : Next = record { order = c.in-Some.order; rest = c.next.new.self.rest } in
    let said = subst (λ x. FirstOrder x rest (Some next)) c.loop-order.invariant.1 c.in-Some.ensures.steps.1 in
    let ran = c.in_ok-play_order.ensures in (
      omega (arith, c.loop-order.invariant.0, ran.few, order_few c.args.items (plain next.order) said.0, order_shorter (plain next.order) rest next.rest.now said.1),
      c.in-Some.ensures.steps.0 ∙ c.loop-order.invariant.1,
      λ os e f.
          let k = c.loop-order.invariant.2 os e f in
          let front = next_some item_laws c.args.items rest next k.0 said k.1 k.2 in
          (front.others, front.text, front.fit, ap (all front.others) ran.ran ∙ ap (λ l. all l s) (sym front.are) ∙ k.3),
    )

pub returns : goal.returns
returns g c = λ os e f.
    let all = all_ordered g.I.ItemKind.text g.I.ItemKind.reading g.K.RingKind.step in
    let k = c.loop-order.invariant.2 os e f in
    let rest = c.loop-order.order-iterator.rest.now in
    let said = subst (λ x. FirstOrder x rest None) c.loop-order.invariant.1 c.in-None.ensures.steps.1 in
    let none = next_none item_laws c.args.items rest k.0 said k.1 k.2 in
    let whole = ap (λ l. all l (playing c.loop-order.self)) (sym none) ∙ k.3 in
    (ap (λ (x : Running g.row.I.Denot). x.table) whole, ap (λ (x : Running g.row.I.Denot). x.text) whole, ap (λ (x : Running g.row.I.Denot). x.written) (sym whole))
