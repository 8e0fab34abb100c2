use Rattle.std.proofs.Common.{◌∙◌, ap, fold, arith}
use Rattle.std.proofs.lemmas.List.{take_all}
use Rattle.columns.specs.Scanning.{seen_after, seen_number}
use Rattle.columns.specs.declared.scanning.Seen.TheVariants.{Blanks}
use Rattle.columns.proofs.Readers.{shown_all}
use Rattle.columns.proofs.scanning.scanned.Goals as goal

pub returns : goal.returns
returns c = c.whole.ensures ∙ ap seen_number (c.loop-column.invariant ∙ ap (fold seen_after Blanks) (take_all c.loop-column.column-index c.args.columns.now (omega (arith, c.loop-column-test.false)))) ∙ shown_all c.args.columns.now
