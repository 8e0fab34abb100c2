-- What the calls that read a play promise.
use Rattle.std.specs.Prelude.{◌≡◌, ℕ, List, ◌++◌, Some, None, Ok, Err, Option, Result, ◌≢◌}
use Rattle.play.specs.declared.fault.PlayFault.{PlayFault}
use Rattle.play.specs.declared.header.ItemChoice.{ItemChoice}
use Rattle.play.specs.declared.next.Next.{Next}
use Rattle.play.specs.declared.next.Orders.{Orders}
use Rattle.play.specs.declared.order.Order.{Order}
use Rattle.play.specs.declared.play.Play.{Play}
use Rattle.play.specs.Orders.{PlainOrder, plain}
use Rattle.play.specs.Play.{play_reading}
use Rattle.play.specs.Text.{OrderFits, order_text, orders_text}

-- which header and orders the bytes say, the body being the orders' text; or which fault they have
abbrev pub PlayRead : List ℕ → Result Play PlayFault → Type 0
PlayRead bytes (Ok p) = (os : List PlainOrder) × (play_reading bytes ≡ Ok (record { header = p.header; orders = os })) × (p.body.now ≡ orders_text os)
PlayRead bytes (Err f) = play_reading bytes ≡ Err f

-- the order whose text stands in front; or there is none
abbrev pub FirstOrder : ItemChoice → List ℕ → Option Next → Type 0
FirstOrder items rest (Some n) = OrderFits items (plain n.order) × (rest ≡ order_text (plain n.order) ++ n.rest.now)
FirstOrder items rest None = (o : PlainOrder) (more : List ℕ) → OrderFits items o → rest ≢ order_text o ++ more

-- what the iterator over a body gives: the order whose text stands in front, with the rest behind it to come; or none, and all stays
abbrev pub OrderGiven : Orders → Option Order → Orders → Type 0
OrderGiven s (Some o) t = (t.items ≡ s.items) × FirstOrder s.items s.rest.now (Some (record { order = o; rest = t.rest }))
OrderGiven s None t = (t ≡ s) × FirstOrder s.items s.rest.now None
