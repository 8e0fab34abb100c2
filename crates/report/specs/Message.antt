-- What an error prints.
use Rattle.std.specs.Prelude.{ℕ, List, codes}
use Rattle.report.specs.declared.error.ReportError.{ReportError}
use Rattle.report.specs.declared.error.ReportError.TheVariants.{Memory, Wide}

-- one sentence for each
abbrev pub message : ReportError → List ℕ
message Memory = codes "there is not enough memory"
message Wide = codes "a number is wider than its field"
