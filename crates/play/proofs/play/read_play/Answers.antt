-- The length, then the first line, then the body.
use Rattle.std.proofs.Common.{sym, ap, ◌∙◌}
use Rattle.std.proofs.lemmas.List.{take_rest}
use Rattle.play.specs.Lines.{lines_of}
use Rattle.play.specs.Play.{order_lines, fault_part}
use Rattle.play.proofs.ItemKinds.{item_laws}
use Rattle.play.proofs.PlayText.{text_law}
use Rattle.play.proofs.WholePlay.{body_fault, body_orders}
use Rattle.play.proofs.play.read_play.Goals as goal

pub returns-in_err-header-clause-text : goal.returns-in_err-header-clause-text
returns-in_err-header-clause-text c = text_law item_laws c.args.bytes.now

pub returns-in-Some : goal.returns-in-Some
returns-in-Some c =
    let bytes = c.args.bytes.now in
    let h = c.in_ok-header.header in
    let header = sym c.read_first_line.ensures.value ∙ c.in_ok-header.was in
    let found = sym c.in-Some.is ∙ c.first_fault.ensures ∙ ap (λ x. fault_part (order_lines h.items 2 (lines_of x))) (take_rest bytes 15) in
    record { reads = body_fault bytes c.if-bytes-gt-LONGEST.false h header c.in-Some.fault found; text = text_law item_laws bytes }

pub returns-in-None : goal.returns-in-None
returns-in-None c =
    let bytes = c.args.bytes.now in
    let h = c.in_ok-header.header in
    let header = sym c.read_first_line.ensures.value ∙ c.in_ok-header.was in
    let none = sym c.in-None.is ∙ c.first_fault.ensures ∙ ap (λ x. fault_part (order_lines h.items 2 (lines_of x))) (take_rest bytes 15) in
    let orders = body_orders bytes c.if-bytes-gt-LONGEST.false h header item_laws none in
    record { reads = (orders.0, orders.1, take_rest bytes 15 ∙ orders.2); text = text_law item_laws bytes }
