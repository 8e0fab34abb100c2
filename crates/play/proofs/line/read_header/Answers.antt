-- The four fields from the left, the kinds by their numbers.
use Rattle.std.proofs.Common.{◌≡◌, Ok, Err, sym, refl, ◌∙◌, rules}
use Rattle.play.specs.declared.fault.LineFault.TheVariants.{Column}
use Rattle.play.proofs.KindNumbers.{ring_of, item_of, header_told}
use Rattle.play.proofs.line.read_header.Goals as goal

pub returns-in_err-ring : goal.returns-in_err-ring
returns-in_err-ring c =
    let line = c.args.line.now in
    let told : c.from_residual.result ≡ Err (Column c.in_err-ring.field-0.0) = search rules in
    let ring = sym c.in_err-ring.was ∙ ring_of 2 3 line _ c.kind.ensures in
    told ∙ header_told line (Err c.in_err-ring.field-0.0) _ _ _ ring refl refl refl

pub returns-in_err-cells : goal.returns-in_err-cells
returns-in_err-cells c =
    let line = c.args.line.now in
    let told : c.from_residual-in_err-cells.result ≡ Err (Column c.in_err-cells.field-0.0) = search rules in
    let ring = sym c.in_ok-ring.was ∙ ring_of 2 3 line _ c.kind.ensures in
    let cells = sym c.in_err-cells.was ∙ c.field.ensures.value in
    told ∙ header_told line (Ok c.in_ok-ring.ring) (Err c.in_err-cells.field-0.0) _ _ ring cells refl refl

pub returns-in_err-workers : goal.returns-in_err-workers
returns-in_err-workers c =
    let line = c.args.line.now in
    let told : c.from_residual-in_err-workers.result ≡ Err (Column c.in_err-workers.field-0.0) = search rules in
    let ring = sym c.in_ok-ring.was ∙ ring_of 2 3 line _ c.kind.ensures in
    let cells = sym c.in_ok-cells.was ∙ c.field.ensures.value in
    let workers = sym c.in_err-workers.was ∙ c.field-2.ensures.value in
    told ∙ header_told line (Ok c.in_ok-ring.ring) (Ok c.in_ok-cells.cells) (Err c.in_err-workers.field-0.0) _ ring cells workers refl

pub returns-in_err-items : goal.returns-in_err-items
returns-in_err-items c =
    let line = c.args.line.now in
    let told : c.from_residual-in_err-items.result ≡ Err (Column c.in_err-items.field-0.0) = search rules in
    let ring = sym c.in_ok-ring.was ∙ ring_of 2 3 line _ c.kind.ensures in
    let cells = sym c.in_ok-cells.was ∙ c.field.ensures.value in
    let workers = sym c.in_ok-workers.was ∙ c.field-2.ensures.value in
    let items = sym c.in_err-items.was ∙ item_of 13 14 line _ c.kind-2.ensures in
    told ∙ header_told line (Ok c.in_ok-ring.ring) (Ok c.in_ok-cells.cells) (Ok c.in_ok-workers.workers) (Err c.in_err-items.field-0.0) ring cells workers items

pub returns : goal.returns
returns c =
    let line = c.args.line.now in
    let ring = sym c.in_ok-ring.was ∙ ring_of 2 3 line _ c.kind.ensures in
    let cells = sym c.in_ok-cells.was ∙ c.field.ensures.value in
    let workers = sym c.in_ok-workers.was ∙ c.field-2.ensures.value in
    let items = sym c.in_ok-items.was ∙ item_of 13 14 line _ c.kind-2.ensures in
    header_told line (Ok c.in_ok-ring.ring) (Ok c.in_ok-cells.cells) (Ok c.in_ok-workers.workers) (Ok c.in_ok-items.items) ring cells workers items
