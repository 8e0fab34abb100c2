-- The report of a play, by its bytes: the line of its first fault, or what its orders come to on the ring and with the items that its header names.
use Rattle.std.specs.Prelude.{ℕ, List, Ok, Err, Result}
use Rattle.columns.specs.Row.{line_text, row_fits}
use Rattle.items.specs.Patch.{patch_text, patch_reading}
use Rattle.items.specs.Job.{job_text, job_reading}
use Rattle.play.specs.declared.fault.PlayFault.{PlayFault}
use Rattle.play.specs.declared.header.RingChoice.{RingChoice}
use Rattle.play.specs.declared.header.RingChoice.TheVariants as ring
use Rattle.play.specs.declared.header.ItemChoice.{ItemChoice}
use Rattle.play.specs.declared.header.ItemChoice.TheVariants as item
use Rattle.play.specs.Faults.{place_of}
use Rattle.play.specs.FaultLine.{fault_mark, place_fields}
use Rattle.play.specs.Orders.{PlainOrder}
use Rattle.play.specs.Play.{PlainPlay, play_reading}
use Rattle.crq.specs.Rows.{crq_step}
use Rattle.prq.specs.Rows.{prq_step}
use Rattle.report.specs.RunBooks.{RunBooks}
use Rattle.report.specs.OrderBooks.{OrderBooks}
use Rattle.report.specs.Whole.{Report, whole_run}

-- of a play with a fault: its fault line alone
abbrev pub fault_report : PlayFault → Report
fault_report f = record { text = line_text fault_mark (place_fields (place_of f)); written = row_fits (place_fields (place_of f)) }

-- the run on r cells with w workers of the ring kind and with the items that were chosen
abbrev pub chosen_run : RingChoice → ItemChoice → ℕ → ℕ → List PlainOrder → Report
chosen_run ring.Crq item.Patch r w os = whole_run patch_text patch_reading crq_step r w os
chosen_run ring.Crq item.Job r w os = whole_run job_text job_reading crq_step r w os
chosen_run ring.Prq item.Patch r w os = whole_run patch_text patch_reading prq_step r w os
chosen_run ring.Prq item.Job r w os = whole_run job_text job_reading prq_step r w os

-- of a play without fault: the run that its header and its orders say
abbrev pub play_report : PlainPlay → Report
play_report p = chosen_run p.header.ring p.header.items p.header.cells p.header.workers p.orders

-- by what the play was read as: a header with orders, or a fault
abbrev pub report_by : Result PlainPlay PlayFault → Report
report_by (Ok p) = play_report p
report_by (Err f) = fault_report f

-- the report of these bytes
abbrev pub report_of : List ℕ → Report
report_of bytes = report_by (play_reading bytes)

-- the books of the run that a play without fault orders
abbrev pub ChosenBooks : RingChoice → ItemChoice → ℕ → ℕ → List PlainOrder → Type 0
ChosenBooks ring.Crq item.Patch r w os = RunBooks patch_text patch_reading crq_step r w os
ChosenBooks ring.Crq item.Job r w os = RunBooks job_text job_reading crq_step r w os
ChosenBooks ring.Prq item.Patch r w os = RunBooks patch_text patch_reading prq_step r w os
ChosenBooks ring.Prq item.Job r w os = RunBooks job_text job_reading prq_step r w os

-- by what the play was read as: a play with a fault runs nothing and has no books
abbrev pub BooksBy : Result PlainPlay PlayFault → Type 0
BooksBy (Ok p) = ChosenBooks p.header.ring p.header.items p.header.cells p.header.workers p.orders
BooksBy (Err f) = Unit {0}

-- the books of the run that these bytes order
abbrev pub BooksOf : List ℕ → Type 0
BooksOf bytes = BooksBy (play_reading bytes)

-- the books of the very calls that the orders of a play without fault make
abbrev pub ChosenOrderBooks : RingChoice → ItemChoice → ℕ → ℕ → List PlainOrder → Type 0
ChosenOrderBooks ring.Crq item.Patch r w os = OrderBooks patch_text patch_reading crq_step r w os
ChosenOrderBooks ring.Crq item.Job r w os = OrderBooks job_text job_reading crq_step r w os
ChosenOrderBooks ring.Prq item.Patch r w os = OrderBooks patch_text patch_reading prq_step r w os
ChosenOrderBooks ring.Prq item.Job r w os = OrderBooks job_text job_reading prq_step r w os

-- by what the play was read as: a play with a fault makes no call
abbrev pub OrderBooksBy : Result PlainPlay PlayFault → Type 0
OrderBooksBy (Ok p) = ChosenOrderBooks p.header.ring p.header.items p.header.cells p.header.workers p.orders
OrderBooksBy (Err f) = Unit {0}

-- the books of the very calls that these bytes order
abbrev pub OrderBooksOf : List ℕ → Type 0
OrderBooksOf bytes = OrderBooksBy (play_reading bytes)
