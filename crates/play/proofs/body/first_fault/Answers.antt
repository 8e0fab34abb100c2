-- Each way out of the loops, by the first line of what is left.
use Rattle.std.proofs.Common.{◌≡◌, ◌+◌, ◌-◌, get_or, take, drop, Ok, sym, ap, ◌∙◌, subst, arith}
use Rattle.play.specs.Letters.{letter_of}
use Rattle.play.specs.Orders.{plain, heard, order_reading}
use Rattle.play.specs.Play.{order_letter}
use Rattle.play.proofs.Cuts.{Clear}
use Rattle.play.proofs.Places.{stops_at, breaks_at, runs_on_at, column_at, goes_on_at}
use Rattle.play.proofs.body.first_fault.Goals as goal
use Rattle.play.proofs.body.first_fault.Goals.{then-column-body-via-then-column-body, then-column-body-via-else-column-body+then-body-column-eq-LF, then-end-body-via-then-end-body, then-end-body-via-else-end-body+then-body-end-ne-LF}

pub returns-then-column-body : goal.returns-then-column-body
returns-then-column-body c =
    let body = c.args.body.now in
    let at = c.reading.at in
    let opens : order_letter c.reading.line (letter_of (get_or body at 0)) ≡ Ok c.in-Ok.found = cc in
    elim c.then-column-body.branch [
      | then-column-body-via-then-column-body w ↦
          sym (stops_at c.args.items c.reading.line body at (omega arith) c.in-Ok.found c.width.result opens c.width.ensures c.loop-column.column (omega arith) w.if-column-body.true c.loop-column.invariant.1)
          ∙ c.reading.invariant.2
      | then-column-body-via-else-column-body+then-body-column-eq-LF w ↦
          sym (breaks_at c.args.items c.reading.line body at (omega arith) c.in-Ok.found c.width.result opens c.width.ensures c.loop-column.column (omega arith) (omega arith) (omega arith) c.loop-column.invariant.1 w.if-body-column-eq-LF.true)
          ∙ c.reading.invariant.2
    ]

pub returns-then-end-body : goal.returns-then-end-body
returns-then-end-body c =
    let body = c.args.body.now in
    let at = c.reading.at in
    let opens : order_letter c.reading.line (letter_of (get_or body at 0)) ≡ Ok c.in-Ok.found = cc in
    let all : c.loop-column.column ≡ at + c.width.result = omega (arith, c.loop-column.auto.column-end (omega arith)) in
    let clear : Clear body at (at + c.width.result) = subst (Clear body at) all c.loop-column.invariant.1 in
    elim c.then-end-body.branch [
      | then-end-body-via-then-end-body w ↦
          sym (stops_at c.args.items c.reading.line body at (omega arith) c.in-Ok.found c.width.result opens c.width.ensures (at + c.width.result) (omega arith) w.if-end-body.true clear)
          ∙ c.reading.invariant.2
      | then-end-body-via-else-end-body+then-body-end-ne-LF w ↦
          sym (runs_on_at c.args.items c.reading.line body at (omega arith) c.in-Ok.found c.width.result opens c.width.ensures (omega arith) clear w.if-body-end-ne-LF.true)
          ∙ c.reading.invariant.2
    ]

pub returns-in-Err-read_order : goal.returns-in-Err-read_order
returns-in-Err-read_order c =
    let body = c.args.body.now in
    let at = c.reading.at in
    let opens : order_letter c.reading.line (letter_of (get_or body at 0)) ≡ Ok c.in-Ok.found = cc in
    let all : c.loop-column.column ≡ at + c.width.result = omega (arith, c.loop-column.auto.column-end (omega arith)) in
    let clear : Clear body at (at + c.width.result) = subst (Clear body at) all c.loop-column.invariant.1 in
    let wide : at + c.width.result - at ≡ c.width.result = omega arith in
    let fault = ap (λ m. order_reading c.args.items c.in-Ok.found (take m (drop at body))) (sym wide) ∙ sym c.read_order.ensures ∙ ap heard c.in-Err-read_order.is in
    sym (column_at c.args.items c.reading.line body at (omega arith) c.in-Ok.found c.width.result opens c.width.ensures (omega arith) clear c.if-body-end-ne-LF.false c.in-Err-read_order.fault fault)
    ∙ c.reading.invariant.2

pub reading-preserved : goal.reading-preserved
reading-preserved c =
    let body = c.args.body.now in
    let at = c.reading.at in
    let opens : order_letter c.reading.line (letter_of (get_or body at 0)) ≡ Ok c.in-Ok.found = cc in
    let all : c.loop-column.column ≡ at + c.width.result = omega (arith, c.loop-column.auto.column-end (omega arith)) in
    let clear : Clear body at (at + c.width.result) = subst (Clear body at) all c.loop-column.invariant.1 in
    let wide : at + c.width.result - at ≡ c.width.result = omega arith in
    let read = ap (λ m. order_reading c.args.items c.in-Ok.found (take m (drop at body))) (sym wide) ∙ sym c.read_order.ensures ∙ ap heard c.in_default.is in
    let on = goes_on_at c.args.items c.reading.line body at (omega arith) c.in-Ok.found c.width.result opens c.width.ensures (omega arith) clear c.if-body-end-ne-LF.false (plain c.in_default.field-0) read in
    (omega arith, omega arith, sym on ∙ c.reading.invariant.2)
