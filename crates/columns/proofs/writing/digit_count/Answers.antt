use Rattle.std.proofs.Common.{◌≡◌, ◌+◌, ◌∙◌, rules}
use Rattle.std.specs.Option.{option_map_or}
use Rattle.columns.proofs.Writers.{digits_counted}
use Rattle.columns.proofs.writing.digit_count.Goals as goal

pub returns-clause-value : goal.returns-clause-value
returns-clause-value c =
    let power = c.checked_ilog10 in
    let e : c.map_or.result ≡ option_map_or (λ k. k + 1) power.result 1 = search rules in
    e ∙ digits_counted power.result c.args.n power.ensures.none power.ensures.power_le power.ensures.next_power_gt
