-- A header, an order and a play written out, and which of them can be.
use Rattle.std.specs.Prelude.{◌≡◌, ℕ, ◌≤◌, List, [], ◌∷◌, ◌++◌, length, pos, Some, Ok}
use Rattle.columns.specs.Number.{field}
use Rattle.items.specs.declared.patch.Patch.{Patch as PatchItem}
use Rattle.items.specs.declared.job.Job.{Job as JobItem}
use Rattle.items.specs.Patch.{patch_text}
use Rattle.items.specs.Job.{job_text}
use Rattle.play.specs.declared.header.Header.{Header}
use Rattle.play.specs.declared.header.RingChoice.{RingChoice}
use Rattle.play.specs.declared.header.RingChoice.TheVariants.{Crq, Prq}
use Rattle.play.specs.declared.header.ItemChoice.{ItemChoice}
use Rattle.play.specs.declared.header.ItemChoice.TheVariants.{Patch, Job}
use Rattle.play.specs.declared.letter.Letter.TheVariants.{Ring, Order}
use Rattle.play.specs.declared.letter.OrderLetter.TheVariants.{Enqueue, Dequeue, Steps}
use Rattle.play.specs.Letters.{code_of}
use Rattle.play.specs.Lines.{LF}
use Rattle.play.specs.Orders.{PlainOrder, enqueue, dequeue, steps}
use Rattle.play.specs.Play.{PlainPlay, longest, play_reading}

-- the number of a ring kind in a header
abbrev pub ring_number : RingChoice → ℕ
ring_number Crq = 1
ring_number Prq = 2

-- the number of an item kind in a header
abbrev pub item_number : ItemChoice → ℕ
item_number Patch = 1
item_number Job = 2

-- `R`, the ring kind in 2 columns, the cells in 5, the workers in 4, the item kind in 2
abbrev pub header_columns : Header → List ℕ
header_columns h = code_of Ring ∷ (field 2 (pos (ring_number h.ring)) ++ (field 5 (pos h.cells) ++ (field 4 (pos h.workers) ++ field 2 (pos (item_number h.items)))))

-- the letter and the worker in 4 columns; then an item's columns, nothing, or the count in 4
abbrev pub order_columns : PlainOrder → List ℕ
order_columns (enqueue w cs) = code_of (Order Enqueue) ∷ (field 4 (pos w.0) ++ cs)
order_columns (dequeue w) = code_of (Order Dequeue) ∷ field 4 (pos w.0)
order_columns (steps w n) = code_of (Order Steps) ∷ (field 4 (pos w.0) ++ field 4 (pos n))

-- a header with its LF
abbrev pub header_text : Header → List ℕ
header_text h = header_columns h ++ (LF ∷ [])

-- an order with its LF
abbrev pub order_text : PlainOrder → List ℕ
order_text o = order_columns o ++ (LF ∷ [])

-- orders, one line behind the other
abbrev pub orders_text : List PlainOrder → List ℕ
orders_text [] = []
orders_text (o ∷ os) = order_text o ++ orders_text os

-- a play: its header, then its orders
abbrev pub play_text : PlainPlay → List ℕ
play_text p = header_text p.header ++ orders_text p.orders

-- from `least` to `most`
abbrev pub Within : ℕ → ℕ → ℕ → Type 0
Within least most n = (least ≤ n) × (n ≤ most)

-- some item of that kind writes these columns
abbrev pub ItemColumns : ItemChoice → List ℕ → Type 0
ItemColumns Patch cs = (x : PatchItem) × (patch_text x ≡ Some cs)
ItemColumns Job cs = (x : JobItem) × (job_text x ≡ Some cs)

-- 1 to 1,024 cells and 1 to 64 workers
abbrev pub HeaderFits : Header → Type 0
HeaderFits h = Within 1 1024 h.cells × Within 1 64 h.workers

-- a worker from 1 to 64; the columns of an item of the play's kind; a count from 1 to 9,999
abbrev pub OrderFits : ItemChoice → PlainOrder → Type 0
OrderFits items (enqueue w cs) = Within 1 64 w.0 × ItemColumns items cs
OrderFits items (dequeue w) = Within 1 64 w.0
OrderFits items (steps w n) = Within 1 64 w.0 × Within 1 9999 n

-- each order fits
abbrev pub OrdersFit : ItemChoice → List PlainOrder → Type 0
OrdersFit items [] = Unit {0}
OrdersFit items (o ∷ os) = OrderFits items o × OrdersFit items os

-- the header and each order fit
abbrev pub PlayFits : PlainPlay → Type 0
PlayFits p = HeaderFits p.header × OrdersFit p.header.items p.orders

-- bytes without fault are the text of what they say, and the text of a play says that play
pub record TextLaw (bytes : List ℕ) : Type 0 where
  pub written : (p : PlainPlay) → play_reading bytes ≡ Ok p → (bytes ≡ play_text p) × PlayFits p
  pub read : (p : PlainPlay) → PlayFits p → bytes ≡ play_text p → length bytes ≤ longest → play_reading bytes ≡ Ok p
