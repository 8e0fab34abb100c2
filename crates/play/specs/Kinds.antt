-- The numbers of ring kinds and item kinds in a header.
use Rattle.std.specs.Prelude.{◌≡◌, ℕ, cond, Ok, Err, Result, ◌==◌}
use Rattle.columns.specs.declared.fault.ColumnFault.{ColumnFault}
use Rattle.columns.specs.declared.read_refusal.ReadRefusal.{ReadRefusal}
use Rattle.columns.specs.declared.read_refusal.ReadRefusal.TheVariants.{Range}
use Rattle.columns.specs.Faults.{at_column}
use Rattle.play.specs.declared.header.RingChoice.{RingChoice}
use Rattle.play.specs.declared.header.RingChoice.TheVariants.{Crq, Prq}
use Rattle.play.specs.declared.header.ItemChoice.{ItemChoice}
use Rattle.play.specs.declared.header.ItemChoice.TheVariants.{Patch, Job}

-- a ring kind by its number; any other is out of range
abbrev pub ring_numbered : ℕ → Result RingChoice ReadRefusal
ring_numbered n = cond (n == 1) (Ok Crq) (cond (n == 2) (Ok Prq) (Err Range))

-- an item kind by its number; any other is out of range
abbrev pub item_numbered : ℕ → Result ItemChoice ReadRefusal
item_numbered n = cond (n == 1) (Ok Patch) (cond (n == 2) (Ok Job) (Err Range))

-- what the conversion gives for the number that was read, with the field's first column in its fault; or the number's fault
abbrev pub KindRead : {K : Type 0} → (ℕ → Result K ReadRefusal → Type 0) → ℕ → Result ℕ ColumnFault → Result K ColumnFault → Type 0
KindRead gives column (Err f) r = r ≡ Err f
KindRead gives column (Ok n) r = (kind : Result _ ReadRefusal) × gives n kind × (r ≡ at_column column kind)
