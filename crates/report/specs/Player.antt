-- A running player by the parts that a function is lent, and what an error of it means.
use Rattle.std.specs.Prelude.{◌≡◌, ℕ, true, false, List, ◌++◌, Ok, Err, Option, Result}
use Rattle.columns.specs.declared.row.Field.{Field}
use Rattle.columns.specs.Row.{line_text, row_fits}
use Rattle.lines.specs.LastLine.{last_mark}
use Rattle.ring.specs.declared.table.Cell.{Cell}
use Rattle.ring.specs.declared.table.Worker.{Worker}
use Rattle.ring.specs.declared.control.Control.{Control}
use Rattle.calls.specs.Promise.{table}
use Rattle.report.specs.declared.error.ReportError.{ReportError}
use Rattle.report.specs.declared.error.ReportError.TheVariants.{Memory, Wide}
use Rattle.report.specs.Running.{Running, has_line, line_bytes}

-- a player whose lines could all be written so far, by its parts
abbrev pub running : {I : Type 0} → Control → List (Cell I) → List (Worker I) → ℕ → List ℕ → Running I
running c cs ws n bytes = record { table = table c cs ws; calls = n; text = bytes; written = true }

-- what an error says of a run: a line of it cannot be written; want of memory says nothing
abbrev pub Failed : {I : Type 0} → ReportError → Running I → Type 0
Failed Wide s = s.written ≡ false
Failed Memory s = Unit {0}

-- what a part of a run came to
abbrev pub Ran : {T I : Type 0} → Result T ReportError → (T → Type 0) → Running I → Type 0
Ran (Ok x) P s = P x
Ran (Err e) P s = Failed e s

-- what printing a line came to
abbrev pub Printed : Option (List ℕ) → List ℕ → List ℕ → Result (Unit {0}) ReportError → Type 0
Printed line before after (Ok u) = (has_line line ≡ true) × (after ≡ before ++ line_bytes line)
Printed line before after (Err Wide) = has_line line ≡ false
Printed line before after (Err Memory) = Unit {0}

-- the table and the text that a body's orders leave, whatever the count of calls
abbrev pub Body : {I : Type 0} → Result (Unit {0}) ReportError → Control → List (Cell I) → List (Worker I) → List ℕ → Running I → Type 0
Body (Ok u) c cs ws bytes s = (table c cs ws ≡ s.table) × (bytes ≡ s.text) × (s.written ≡ true)
Body (Err e) c cs ws bytes s = Failed e s

-- what printing the last line came to
abbrev pub LastPrinted : List Field → List ℕ → List ℕ → Result (Unit {0}) ReportError → Type 0
LastPrinted fs before after (Ok u) = (row_fits fs ≡ true) × (after ≡ before ++ line_text last_mark fs)
LastPrinted fs before after (Err Wide) = row_fits fs ≡ false
LastPrinted fs before after (Err Memory) = Unit {0}
