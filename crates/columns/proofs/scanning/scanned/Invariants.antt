use Rattle.std.proofs.Common.{◌≡◌, fold, take}
use Rattle.columns.specs.Scanning.{seen_after}
use Rattle.columns.specs.declared.scanning.Seen.TheVariants.{Blanks}
use Rattle.columns.proofs.scanning.scanned.Given as goal

-- what was seen is what the columns so far come to
abbrev pub invariant-loop-column : goal.invariant-loop-column
invariant-loop-column l = l.seen ≡ fold seen_after Blanks (take l.column-index l.columns)
