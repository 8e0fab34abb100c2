-- Whether a report can be written: each number in its columns, and each item with a text.
use Rattle.std.specs.Prelude.{◌≡◌, ℕ, ◌≤◌, true, List, length}
use Rattle.play.specs.declared.header.ItemChoice.{ItemChoice}
use Rattle.play.specs.Orders.{PlainOrder}
use Rattle.play.specs.Play.{longest}
use Rattle.play.specs.Text.{OrdersFit, orders_text}
use Rattle.report.specs.Report.{report_of}
use Rattle.report.specs.Whole.{Report}

-- whatever orders a play may have, every line of their run fits its columns
abbrev pub RunFits : ItemChoice → (List PlainOrder → Report) → Type 0
RunFits items run = (os : List PlainOrder) → OrdersFit items os → length (orders_text os) ≤ longest → (run os).written ≡ true

-- every line of the report of these bytes fits its columns
abbrev pub ReportFits : List ℕ → Type 0
ReportFits bytes = (report_of bytes).written ≡ true
