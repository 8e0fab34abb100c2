-- By the first LF, which stands behind the columns of a whole line.
use Rattle.std.proofs.Common.{eqb, Some, sym, ap, ◌∙◌, ◌+◌, take, arith}
use Rattle.std.specs.Option.{option_eq}
use Rattle.play.proofs.Whole.{not_whole, whole_by_end, whole_in_front}
use Rattle.play.proofs.play.is_whole.Goals as goal

pub returns-then-bytes-width-clause-value : goal.returns-then-bytes-width-clause-value
returns-then-bytes-width-clause-value c = sym (not_whole c.args.width c.args.bytes.now (λ s. let h = s.room in omega (arith, c.if-bytes-width.true)))

pub returns-clause-value : goal.returns-clause-value
returns-clause-value c =
    let w = c.args.width in
    let bs = c.args.bytes.now in
    c.eq.ensures ∙ ap (λ o. option_eq eqb o (Some w)) c.line_end.ensures ∙ whole_by_end w (take (w + 1) bs) ∙ whole_in_front w bs (omega (arith, c.if-bytes-width.false))
