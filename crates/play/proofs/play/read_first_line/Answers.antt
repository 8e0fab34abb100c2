-- The letter, then the length, then the columns.
use Rattle.std.proofs.Common.{◌≡◌, ◌-◌, true, get_or, take, Ok, sym, ap, ◌∙◌, arith, rules}
use Rattle.play.specs.Lines.{lines_of}
use Rattle.play.specs.Letters.{letter_of}
use Rattle.play.specs.Faults.{at_line}
use Rattle.play.specs.Orders.{header_reading}
use Rattle.play.specs.Play.{first_letter, first_whole}
use Rattle.play.proofs.FirstHeader.{header_read}
use Rattle.play.proofs.play.read_first_line.Goals as goal

pub returns-clause-value : goal.returns-clause-value
returns-clause-value c =
    let was = c.in_ok-open_first.was in
    let opens : first_letter (letter_of (get_or c.args.bytes.now 0 0)) ≡ Ok c.in_ok-open_first.field-0 = cc in
    let whole : first_whole 14 (lines_of c.args.bytes.now) ≡ true = ap (λ w. first_whole w (lines_of c.args.bytes.now)) (sym c.width-width.ensures) ∙ sym c.is_whole.ensures.value ∙ c.if-not-is_whole.false in
    let read = header_read c.args.bytes.now (omega arith) c.in_ok-open_first.field-0 opens whole in
    let wide : c.width-width.result - 0 ≡ 14 = omega arith in
    let was_read : c.read_header.result ≡ header_reading (take 14 c.args.bytes.now) = c.read_header.ensures ∙ ap (λ w. header_reading (take w c.args.bytes.now)) wide in
    let placed : c.map_err.result ≡ at_line c.read_header.result 1 = search rules in
    placed ∙ ap (λ r. at_line r 1) was_read ∙ sym read
