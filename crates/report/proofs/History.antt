-- The calls that a run makes, one after the other.
use Rattle.std.proofs.Common.{ℕ, zero, suc, Bool, true, false, cond, List, [], ◌∷◌, Ok, Err, Option, Result, sym, refl, ap, subst, arith}
use Rattle.tickets.specs.declared.WorkerNo.{WorkerNo}
use Rattle.columns.specs.declared.fault.ColumnFault.{ColumnFault}
use Rattle.ring.specs.declared.call.Call.{Call}
use Rattle.ring.specs.declared.call.Call.TheVariants.{AssignEnqueue, AssignDequeue, Step}
use Rattle.ring.specs.Books.{BooksClose}
use Rattle.ring.specs.Calls.{called}
use Rattle.ring.specs.Table.{InRange}
use Rattle.ring.specs.Turns.{KindStep}
use Rattle.play.specs.Orders.{PlainOrder, enqueue, dequeue, steps}
use Rattle.report.specs.Running.{Running, performed, stepping, stops, enqueuing, ordered, all_ordered}
use Rattle.report.specs.History.{and_steps, and_enqueue, and_order, and_orders, calls_of}
use Rattle.report.specs.RunBooks.{RunBooks}
use Rattle.report.specs.OrderBooks.{LedBy, OrderBooks}
use Rattle.report.specs.Whole.{starting}

module _ {I : Type 0} (text : I → Option (List ℕ)) (reading : List ℕ → Result I ColumnFault) (step : KindStep I) (r w : ℕ) where
  led_call : (s : Running I) (h : List (Call I)) (c : Call I) → LedBy step r w s h → LedBy step r w (performed text step s c) (c ∷ h)
  led_call s h c l = record { count = let n = l.count in omega arith; table = ap (λ t. (called step t c).table) l.table }

  led_either : (b : Bool) (x y : Running I) (h k : List (Call I)) → LedBy step r w x h → LedBy step r w y k → LedBy step r w (cond b x y) (cond b h k)
  led_either true x y h k l m = l
  led_either false x y h k l m = m

  led_steps : (n : WorkerNo) (k : ℕ) (s : Running I) (h : List (Call I)) → LedBy step r w s h → LedBy step r w (stepping text step n k s) (and_steps reading step r w n k h)
  led_steps n zero s h l = l
  led_steps n (suc k) s h l =
      let one = led_call s h (Step n) l in
      let x = performed text step s (Step n) in
      let rest = led_steps n k x (Step n ∷ h) one in
      subst (λ t. LedBy step r w (stepping text step n (suc k) s) (cond (stops (called step t (Step n)).answer) (Step n ∷ h) (and_steps reading step r w n k (Step n ∷ h)))) (sym l.table)
      (led_either (stops (called step s.table (Step n)).answer) x (stepping text step n k x) (Step n ∷ h) (and_steps reading step r w n k (Step n ∷ h)) one rest)

  led_enqueue : (n : WorkerNo) (x : Result I ColumnFault) (s : Running I) (h : List (Call I)) → LedBy step r w s h
      → LedBy step r w (enqueuing text reading step n x s) (and_enqueue reading step r w n x h)
  led_enqueue n (Ok i) s h l = led_call s h (AssignEnqueue n i) l
  led_enqueue n (Err f) s h l = l

  led_order : (o : PlainOrder) (s : Running I) (h : List (Call I)) → LedBy step r w s h → LedBy step r w (ordered text reading step o s) (and_order reading step r w o h)
  led_order (enqueue n cs) s h l = led_enqueue n (reading cs) s h l
  led_order (dequeue n) s h l = led_call s h (AssignDequeue n) l
  led_order (steps n k) s h l = led_steps n k s h l

  led_orders : (os : List PlainOrder) (s : Running I) (h : List (Call I)) → LedBy step r w s h → LedBy step r w (all_ordered text reading step os s) (and_orders reading step r w os h)
  led_orders [] s h l = l
  led_orders (o ∷ os) s h l = led_orders os (ordered text reading step o s) (and_order reading step r w o h) (led_order o s h l)

  pub order_books : BooksClose step → InRange r w → (os : List PlainOrder) → OrderBooks text reading step r w os
  order_books close range os =
      let books = close r w range (calls_of reading step r w os) in
      record { led = led_orders os (starting r w) [] (record { count = refl; table = refl }); sound = books.0; attended = books.1 }

  -- the calls that the orders make are some calls
  pub run_books : BooksClose step → InRange r w → (os : List PlainOrder) → RunBooks text reading step r w os
  run_books close range os =
      let b = order_books close range os in
      record { led = record { calls = calls_of reading step r w os; count = b.led.count; table = b.led.table }; sound = b.sound; attended = b.attended }
