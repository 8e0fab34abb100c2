use Rattle.std.proofs.Common.{◌≡◌, ◌+◌, ◌-◌, ◌<◌, ◌≤◌, length, take, pos, refl, ap, ◌∙◌, arith, rules, SFits, to_z, of_z}
use lib.Signed.{lt_z}
use Rattle.std.specs.Int.{w128, from_bool}
use Rattle.std.specs.Prelude.{unsigned_abs}
use Rattle.std.proofs.lemmas.Int.{to_z-of_z}
use Rattle.std.proofs.lemmas.List.{length-take-le}
use Rattle.columns.specs.Number.{digits}
use Rattle.columns.specs.Signs.{front}
use Rattle.columns.specs.Writing.{written}
use Rattle.columns.proofs.Writers.{written_narrow, number_wide, number_parts}
use Rattle.columns.proofs.writing.write_number.Goals as goal

pub returns-then-buffer-width : goal.returns-then-buffer-width
returns-then-buffer-width g c = written_narrow _ _ c.args.buffer.now c.if-buffer-width.true

pub returns-then-width-digits : goal.returns-then-width-digits
returns-then-width-digits g c =
    let buffer = c.args.buffer.now in
    let z = to_z w128 (of_z w128 c.wide-number.result) in
    let fits : SFits w128 c.wide-number.result = search rules in
    let magnitude : c.unsigned_abs-size.result ≡ unsigned_abs z = c.unsigned_abs-size.ensures.value in
    let wide : c.args.width < length (digits (unsigned_abs z)) + from_bool (lt_z z (pos 0)) = omega (arith, c.digit_count-digits.ensures.value, ap (λ n. length (digits n)) magnitude, c.from.ensures) in
    number_wide c.args.width z buffer c.if-buffer-width.false wide
    ∙ ap (λ y. written c.args.width y buffer) (to_z-of_z w128 c.wide-number.result fits ∙ c.wide-number.ensures.value)

pub returns : goal.returns
returns g c =
    let buffer = c.args.buffer.now in
    let z = to_z w128 (of_z w128 c.wide-number.result) in
    let fits : SFits w128 c.wide-number.result = search rules in
    let magnitude : c.unsigned_abs-size.result ≡ unsigned_abs z = c.unsigned_abs-size.ensures.value in
    let count : c.digit_count-digits.result ≡ length (digits (unsigned_abs z)) = c.digit_count-digits.ensures.value ∙ ap (λ n. length (digits n)) magnitude in
    let start = c.args.width - c.digit_count-digits.result in
    let part : length (take (start - 0) buffer) ≡ start = length-take-le (start - 0) buffer (omega arith) ∙ omega arith in
    let room : length (digits (unsigned_abs z)) + from_bool (lt_z z (pos 0)) ≤ c.args.width = omega (arith, c.from.ensures) in
    number_parts c.args.width z start (c.args.width - start) buffer c.write_front.new.columns c.write_digits.new.columns
    c.if-buffer-width.false room (ap (λ d. c.args.width - d) count) refl
    (c.write_front.ensures ∙ ap (λ k. front k (lt_z z (pos 0))) part) (c.write_digits.ensures ∙ ap digits magnitude)
    ∙ ap (λ y. written c.args.width y buffer) (to_z-of_z w128 c.wide-number.result fits ∙ c.wide-number.ensures.value)
