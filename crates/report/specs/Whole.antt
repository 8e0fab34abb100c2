-- A whole run on a table, from laying out to the last line.
use Rattle.std.specs.Prelude.{◌≡◌, ℕ, Bool, true, false, ◌&&◌, List, [], ◌++◌, Ok, Err, vec_items, Option, Result, Vec}
use Rattle.std.specs.declared.alloc.Global.{Global}
use Rattle.columns.specs.declared.fault.ColumnFault.{ColumnFault}
use Rattle.columns.specs.declared.row.Field.{Field}
use Rattle.columns.specs.Row.{line_text, row_fits}
use Rattle.ring.specs.Table.{Table, laid_out, occupied_cells}
use Rattle.ring.specs.Turns.{KindStep}
use Rattle.play.specs.Orders.{PlainOrder}
use Rattle.report.specs.declared.error.ReportError.{ReportError}
use Rattle.report.specs.declared.error.ReportError.TheVariants.{Memory, Wide}
use Rattle.lines.specs.LastLine.{last_mark, last_fields}
use Rattle.report.specs.Running.{Running, all_ordered}

-- what is printed, and whether every line of it can be
pub record Report : Type 0 where
  pub text : List ℕ
  pub written : Bool

module _ {I : Type 0} where
  -- a new table, no call made, nothing printed
  abbrev pub starting : ℕ → ℕ → Running I
  starting r w = record { table = laid_out r w; calls = 0; text = []; written = true }

  -- the numbers of the last line, by the table at the end
  abbrev pub table_fields : Table I → List Field
  table_fields t = last_fields t.counters.head t.counters.tail t.counters.closed (occupied_cells t.cells)

  -- the last line behind what was printed
  abbrev pub finished : Running I → Report
  finished s = record { text = s.text ++ line_text last_mark (table_fields s.table); written = s.written && row_fits (table_fields s.table) }

  -- a new table, then the orders, then the last line
  abbrev pub whole_run : (I → Option (List ℕ)) → (List ℕ → Result I ColumnFault) → KindStep I → ℕ → ℕ → List PlainOrder → Report
  whole_run text reading step r w os = finished (all_ordered text reading step os (starting r w))

-- what an error says of a report: a line of it cannot be written; want of memory says nothing
abbrev pub Unreported : ReportError → Report → Type 0
Unreported Wide p = p.written ≡ false
Unreported Memory p = Unit {0}

-- what making a report came to
abbrev pub Reported : Result (Vec ℕ Global) ReportError → Report → Type 0
Reported (Ok v) p = (vec_items v ≡ p.text) × (p.written ≡ true)
Reported (Err e) p = Unreported e p
