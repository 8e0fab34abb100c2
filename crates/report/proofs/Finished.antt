-- A run and its last line.
use Rattle.std.proofs.Common.{◌≡◌, ℕ, true, List, ◌++◌, Ok, sym, ap, ◌∙◌}
use Rattle.std.proofs.lemmas.Bool.{and_from}
use Rattle.columns.specs.declared.row.Field.{Field}
use Rattle.columns.specs.Row.{line_text, row_fits}
use Rattle.lines.specs.LastLine.{last_mark}
use Rattle.report.specs.Player.{LastPrinted}
use Rattle.report.specs.Running.{Running}
use Rattle.report.specs.Whole.{table_fields, finished}

module _ {I : Type 0} where
  pub last_reported : (s : Running I) (fs : List Field) (before after : List ℕ) (u : Unit {0}) → fs ≡ table_fields s.table → before ≡ s.text → s.written ≡ true → LastPrinted fs before after (Ok u)
      → (after ≡ (finished s).text) × ((finished s).written ≡ true)
  last_reported s fs before after u is text written h =
      (h.1 ∙ ap (λ x. x ++ line_text last_mark fs) text ∙ ap (λ x. s.text ++ line_text last_mark x) is, and_from s.written (row_fits (table_fields s.table)) written (sym (ap row_fits is) ∙ h.0))
