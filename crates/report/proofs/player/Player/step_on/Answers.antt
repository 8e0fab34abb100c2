-- By one step more of the definition.
use Rattle.std.proofs.Common.{◌≡◌, ◌+◌, ◌-◌, ◌<◌, sym, ap, ◌∙◌, arith}
use Rattle.std.proofs.lemmas.Result.{err_from_is_err_and}
use Rattle.ring.specs.declared.call.Call.TheVariants.{Step}
use Rattle.report.specs.Playing.{playing}
use Rattle.report.specs.Running.{Running, performed, stepping}
use Rattle.report.proofs.Errors.{failed_on}
use Rattle.report.proofs.Stepping.{steps_on, steps_fail}
use Rattle.report.proofs.player.Player.step_on.Goals as goal

pub returns-in_err-perform-clause-ran : goal.returns-in_err-perform-clause-ran
returns-in_err-perform-clause-ran g c =
    let p = err_from_is_err_and c.from_residual.result c.from_residual.ensures.1 in
    let text = g.I.ItemKind.text in
    let step = g.K.RingKind.step in
    let w = c.args.worker in
    let n = c.args.count - c.loop-step._step in
    let more : 0 < n = omega arith in
    let s = playing c.loop-step.self in
    rw (p.1, p.2)
    (failed_on c.in_err-perform.field-0.0 (performed text step s (Step w)) (stepping text step w c.args.count (playing c.args.self.now)) c.in_err-perform.ensures
    (λ e. ap (λ (x : Running g.row.I.Denot). x.written) (sym c.loop-step.invariant.1) ∙ steps_fail text step w n s more e))

pub loop-step-preserved : goal.loop-step-preserved
loop-step-preserved g c =
    let text = g.I.ItemKind.text in
    let step = g.K.RingKind.step in
    let w = c.args.worker in
    let n = c.args.count - c.loop-step._step in
    let more : 0 < n = omega arith in
    let fewer : n - 1 ≡ c.args.count - (c.loop-step._step + 1) = omega arith in
    let said = c.in_ok-perform.ensures in (
      omega (arith, ap (λ (x : Running g.row.I.Denot). x.calls) said.0, c.loop-step.invariant.0),
      sym (ap (λ m. stepping text step w m (playing c.perform.new.self)) fewer) ∙ ap (stepping text step w (n - 1)) said.0
          ∙ sym (steps_on text step w n (playing c.loop-step.self) more (sym said.1 ∙ c.if-branch.false)) ∙ c.loop-step.invariant.1,
    )
