-- What the columns of a line say: a header or an order, read field by field from the left.
use Rattle.std.specs.Prelude.{ℕ, ◌+◌, ◌-◌, cond, List, take, drop, Ok, Err, Result, ◌==◌}
use Rattle.tickets.specs.declared.WorkerNo.{WorkerNo}
use Rattle.columns.specs.declared.fault.ColumnFault.{ColumnFault}
use Rattle.columns.specs.Faults.{at_column}
use Rattle.columns.specs.Reading.{unsigned_reading}
use Rattle.items.specs.Patch.{patch_reading}
use Rattle.items.specs.Job.{job_reading}
use Rattle.play.specs.declared.fault.LineFault.{LineFault}
use Rattle.play.specs.declared.fault.LineFault.TheVariants.{Column}
use Rattle.play.specs.declared.header.Header.{Header}
use Rattle.play.specs.declared.header.RingChoice.{RingChoice}
use Rattle.play.specs.declared.header.RingChoice.TheVariants.{Crq, Prq}
use Rattle.play.specs.declared.header.ItemChoice.{ItemChoice}
use Rattle.play.specs.declared.header.ItemChoice.TheVariants.{Patch, Job}
use Rattle.play.specs.declared.letter.OrderLetter.{OrderLetter}
use Rattle.play.specs.declared.letter.OrderLetter.TheVariants.{Enqueue, Dequeue, Steps}
use Rattle.play.specs.declared.order.Order.{Order}
use Rattle.play.specs.declared.order.Order.TheVariants as order

-- an order with the item's columns themselves, where the program's order borrows them
pub data PlainOrder : Type 0 where
  enqueue : WorkerNo → List ℕ → PlainOrder
  dequeue : WorkerNo → PlainOrder
  steps : WorkerNo → ℕ → PlainOrder

-- the program's order with the columns that it borrows
abbrev pub plain : Order → PlainOrder
plain (order.Enqueue w cs) = enqueue w cs.now
plain (order.Dequeue w) = dequeue w
plain (order.Steps w n) = steps w n

-- the same of an order that was read, or its fault
abbrev pub heard : Result Order LineFault → Result PlainOrder LineFault
heard (Ok o) = Ok (plain o)
heard (Err f) = Err f

-- the number in the columns first to last, counted from 1
abbrev pub field_reading : ℕ → ℕ → ℕ → ℕ → List ℕ → Result ℕ ColumnFault
field_reading first last least most line = at_column first (unsigned_reading least most (take (last - (first - 1)) (drop (first - 1) line)))

-- the ring kind's number in a header: 1 CRQ, 2 PRQ
abbrev pub ring_choice : ℕ → RingChoice
ring_choice n = cond (n == 1) Crq Prq

-- the item kind's number in a header: 1 patch, 2 job
abbrev pub item_choice : ℕ → ItemChoice
item_choice n = cond (n == 1) Patch Job

-- of several fields the first faulty one from the left decides
abbrev pub header_from : Result ℕ ColumnFault → Result ℕ ColumnFault → Result ℕ ColumnFault → Result ℕ ColumnFault → Result Header LineFault
header_from (Err f) c w i = Err (Column f)
header_from (Ok r) (Err f) w i = Err (Column f)
header_from (Ok r) (Ok c) (Err f) i = Err (Column f)
header_from (Ok r) (Ok c) (Ok w) (Err f) = Err (Column f)
header_from (Ok r) (Ok c) (Ok w) (Ok i) = Ok (record { ring = ring_choice r; cells = c; workers = w; items = item_choice i })

-- ring kind, cells, workers and item kind
abbrev pub header_reading : List ℕ → Result Header LineFault
header_reading line = header_from (field_reading 2 3 1 2 line) (field_reading 4 8 1 1024 line) (field_reading 9 12 1 64 line) (field_reading 13 14 1 2 line)

-- whether an item is read, or its fault, whose column is counted from the line's first; the item's columns begin at the sixth
abbrev pub checked : {X : Type 0} → Result X ColumnFault → Result Unit ColumnFault
checked (Ok x) = Ok tt
checked (Err f) = Err (record { column = f.column + 5; refusal = f.refusal })

-- whether these columns write an item of the kind
abbrev pub item_check : ItemChoice → List ℕ → Result Unit ColumnFault
item_check Patch cs = checked (patch_reading cs)
item_check Job cs = checked (job_reading cs)

-- an enqueue by its worker and its item's columns; the worker's fault comes before the item's
abbrev pub enqueue_from : Result ℕ ColumnFault → Result Unit ColumnFault → List ℕ → Result PlainOrder LineFault
enqueue_from (Err f) i cs = Err (Column f)
enqueue_from (Ok w) (Err f) cs = Err (Column f)
enqueue_from (Ok w) (Ok u) cs = Ok (enqueue (record { 0 = w }) cs)

-- a dequeue by its worker, or the fault
abbrev pub dequeue_from : Result ℕ ColumnFault → Result PlainOrder LineFault
dequeue_from (Err f) = Err (Column f)
dequeue_from (Ok w) = Ok (dequeue (record { 0 = w }))

-- steps by their worker and their count; the worker's fault comes before the count's
abbrev pub steps_from : Result ℕ ColumnFault → Result ℕ ColumnFault → Result PlainOrder LineFault
steps_from (Err f) n = Err (Column f)
steps_from (Ok w) (Err f) = Err (Column f)
steps_from (Ok w) (Ok n) = Ok (steps (record { 0 = w }) n)

-- a worker, and what the letter takes besides
abbrev pub order_reading : ItemChoice → OrderLetter → List ℕ → Result PlainOrder LineFault
order_reading items Enqueue line = enqueue_from (field_reading 2 5 1 64 line) (item_check items (take 15 (drop 5 line))) (take 15 (drop 5 line))
order_reading items Dequeue line = dequeue_from (field_reading 2 5 1 64 line)
order_reading items Steps line = steps_from (field_reading 2 5 1 64 line) (field_reading 6 9 1 9999 line)
