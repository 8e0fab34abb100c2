use Rattle.std.proofs.Common.{◌≡◌, Some, Err, ◌∙◌, ap, sym, SFits, rules}
use Rattle.std.specs.Int.{w128}
use Rattle.std.proofs.lemmas.Int.{to_z-of_z}
use Rattle.std.specs.Option.{ok_or}
use Rattle.std.proofs.lemmas.Result.{err_from_is_err_and}
use Rattle.columns.specs.Number.{number}
use Rattle.columns.specs.Reading.{signed_of}
use Rattle.columns.specs.Scanning.{signed_within}
use Rattle.columns.specs.declared.read_refusal.ReadRefusal.TheVariants.{Form}
use Rattle.columns.specs.NumberTypes.{answer_of}
use Rattle.columns.proofs.Readers.{form_told, found_told, read_value, read_relates, read_alone, read_bound}
use Rattle.columns.proofs.reading.read_number.Goals as goal

pub returns-in_err-found : goal.returns-in_err-found
returns-in_err-found g c =
    let n = g.N.ColumnNumber in
    let laws = g.met.N.ColumnNumber.laws in
    let least = n.value c.args.least in
    let most = n.value c.args.most in
    let cs = c.args.columns.now in
    let p = err_from_is_err_and c.from_residual.result c.from_residual.ensures.1 in
    let e : answer_of n.value c.from_residual.result ≡ signed_of least most (number cs) =
    ap (answer_of n.value) (p.1 ∙ ap Err p.2) ∙ form_told least most (number cs) c.in_err-found.field-0.0 (ap (λ o. ok_or o Form) (sym c.scanned.ensures) ∙ sym c.ok_or.ensures.value ∙ c.in_err-found.was) in
    record {
      value = read_value _ _ _ _ _ laws _ _ cs _ e;
      relation = read_relates _ _ _ _ _ laws _ _ cs _ e;
      only = read_alone _ _ _ _ _ laws _ _ cs _ e;
      bound = read_bound _ _ _ _ _ laws _ _ cs _ e;
    }

pub returns : goal.returns
returns g c =
    let n = g.N.ColumnNumber in
    let laws = g.met.N.ColumnNumber.laws in
    let least = n.value c.args.least in
    let most = n.value c.args.most in
    let cs = c.args.columns.now in
    let fits : SFits w128 c.in_ok-found.found = search rules in
    let e : answer_of n.value c.within.result ≡ signed_of least most (number cs) = c.within.ensures.value ∙ ap (λ z. signed_within least most (Some z)) (to_z-of_z w128 c.in_ok-found.found fits)
    ∙ found_told least most c.in_ok-found.found (number cs) (laws.short least c.within.ensures.range.0) (laws.short most c.within.ensures.range.1) (ap (λ o. ok_or o Form) (sym c.scanned.ensures) ∙ sym c.ok_or.ensures.value ∙ c.in_ok-found.was) in
    record {
      value = read_value _ _ _ _ _ laws _ _ cs _ e;
      relation = read_relates _ _ _ _ _ laws _ _ cs _ e;
      only = read_alone _ _ _ _ _ laws _ _ cs _ e;
      bound = read_bound _ _ _ _ _ laws _ _ cs _ e;
    }
