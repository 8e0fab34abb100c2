-- One order more of a body.
use Rattle.std.proofs.Common.{◌≡◌, ℕ, ◌+◌, ◌≤◌, false, List, [], ◌∷◌, ◌++◌, length, Ok, Err, Option, Result, ap, arith}
use Rattle.std.proofs.lemmas.List.{length-append}
use Rattle.tickets.specs.declared.WorkerNo.{WorkerNo}
use Rattle.columns.specs.declared.fault.ColumnFault.{ColumnFault}
use Rattle.ring.specs.declared.call.Call.TheVariants.{AssignEnqueue, AssignDequeue}
use Rattle.ring.specs.Turns.{KindStep}
use Rattle.play.specs.declared.header.ItemChoice.{ItemChoice}
use Rattle.play.specs.Lines.{LF}
use Rattle.play.specs.Orders.{PlainOrder, enqueue, dequeue, steps}
use Rattle.play.specs.Text.{OrderFits, order_text, order_columns}
use Rattle.report.specs.Running.{Running, enqueuing, ordered, all_ordered, most_calls}
use Rattle.report.proofs.Stepping.{call_unwritten, steps_unwritten}

pub order_few : (items : ItemChoice) (o : PlainOrder) → OrderFits items o → most_calls o ≤ 9999
order_few items (enqueue w cs) f = omega arith
order_few items (dequeue w) f = omega arith
order_few items (steps w n) f = f.1.1

-- an order's text has at least its LF
pub order_shorter : (o : PlainOrder) (rest more : List ℕ) → rest ≡ order_text o ++ more → length more + 1 ≤ length rest
order_shorter o rest more e = omega (arith, ap length e, length-append (order_text o) more, length-append (order_columns o) (LF ∷ []))

module _ {I : Type 0} (text : I → Option (List ℕ)) (reading : List ℕ → Result I ColumnFault) (step : KindStep I) where
  enqueue_unwritten : (w : WorkerNo) (r : Result I ColumnFault) (s : Running I) → s.written ≡ false → (enqueuing text reading step w r s).written ≡ false
  enqueue_unwritten w (Ok i) s e = call_unwritten text step s (AssignEnqueue w i) e
  enqueue_unwritten w (Err f) s e = e

  pub order_unwritten : (o : PlainOrder) (s : Running I) → s.written ≡ false → (ordered text reading step o s).written ≡ false
  order_unwritten (enqueue w cs) s e = enqueue_unwritten w (reading cs) s e
  order_unwritten (dequeue w) s e = call_unwritten text step s (AssignDequeue w) e
  order_unwritten (steps w n) s e = steps_unwritten text step w n s e

  pub orders_unwritten : (os : List PlainOrder) (s : Running I) → s.written ≡ false → (all_ordered text reading step os s).written ≡ false
  orders_unwritten [] s e = e
  orders_unwritten (o ∷ os) s e = orders_unwritten os (ordered text reading step o s) (order_unwritten o s e)
