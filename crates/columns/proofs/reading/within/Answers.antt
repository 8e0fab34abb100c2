use Rattle.std.proofs.Common.{◌≡◌, ◌∙◌, ap, subst, arith}
use Rattle.std.specs.Prelude.{MatchOption}
use Rattle.std.specs.Int.{w128}
use Rattle.std.proofs.lemmas.Int.{ints, to_z-of_z}
use Rattle.std.specs.Option.{ok_or}
use Rattle.columns.specs.declared.read_refusal.ReadRefusal.TheVariants.{Range}
use Rattle.columns.specs.NumberTypes.{answer_of}
use Rattle.columns.proofs.Readers.{within_value}
use Rattle.columns.proofs.reading.within.Goals as goal

pub returns-clause-value : goal.returns-clause-value
returns-clause-value g c =
    let n = g.N.ColumnNumber in
    let f : MatchOption c.narrow.result (n.in_range c.args.found → ⊥) (λ m. n.value m ≡ c.args.found) = subst (λ z. MatchOption c.narrow.result (n.in_range z → ⊥) (λ m. n.value m ≡ z)) (to_z-of_z w128 c.args.found c.ranges.found) c.narrow.ensures in
    let told : c.ok_or.result ≡ ok_or c.narrow.result Range = c.ok_or.ensures.value in
    ap (answer_of n.value) told
    ∙ within_value n.value n.in_range n.at_most n.reading n.reads g.met.N.ColumnNumber.laws c.args.least c.args.most c.args.found c.narrow.result (subst n.in_range c.wide-least.ensures.value c.wide-least.ensures.range) (subst n.in_range c.wide-most.ensures.value c.wide-most.ensures.range) (omega (arith, ints, c.wide-least.ensures.value)) (omega (arith, ints, c.wide-most.ensures.value)) f
