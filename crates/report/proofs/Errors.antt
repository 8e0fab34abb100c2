-- What an error says of a run.
use Rattle.std.proofs.Common.{◌≡◌, ℕ, false, List, Err, Option}
use Rattle.report.specs.declared.error.ReportError.{ReportError}
use Rattle.report.specs.declared.error.ReportError.TheVariants.{Memory, Wide}
use Rattle.report.specs.Player.{Failed, Printed}
use Rattle.report.specs.Running.{Running, has_line}

pub print_failed : {I : Type 0} (e : ReportError) (line : Option (List ℕ)) (before after : List ℕ) (s : Running I) → Printed line before after (Err e) → (has_line line ≡ false → s.written ≡ false) → Failed e s
print_failed Memory line before after s p h = tt
print_failed Wide line before after s p h = h p

pub failed_on : {I : Type 0} (e : ReportError) (s t : Running I) → Failed e s → (s.written ≡ false → t.written ≡ false) → Failed e t
failed_on Memory s t f h = tt
failed_on Wide s t f h = h f
