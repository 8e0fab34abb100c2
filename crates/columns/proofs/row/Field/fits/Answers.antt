use Rattle.std.proofs.Common.{rules}
use Rattle.columns.specs.Number.{text}
use Rattle.columns.proofs.row.Field.fits.Goals as goal

pub returns : goal.returns
unfolding text
returns c = search rules
