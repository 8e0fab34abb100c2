-- Both item kinds say the same of their columns.
use Rattle.std.proofs.Common.{◌≡◌, ℕ, List, length, Ok, Err, Result, refl, ap}
use Rattle.columns.specs.declared.fault.ColumnFault.{ColumnFault}
use Rattle.items.specs.Patch.{patch_reading}
use Rattle.items.specs.Job.{job_reading}
use Rattle.items.specs.Patches.{patch_back, patch_only, patch_wide, patch_printed}
use Rattle.items.specs.Jobs.{job_back, job_only, job_wide, job_printed}
use Rattle.play.specs.declared.header.ItemChoice.{ItemChoice}
use Rattle.play.specs.declared.header.ItemChoice.TheVariants.{Patch, Job}
use Rattle.play.specs.Orders.{checked, item_check}
use Rattle.play.specs.Text.{ItemColumns}
use Rattle.play.proofs.OrderText.{ItemLaws, Printed}

item_read : {X : Type 0} (r : Result X ColumnFault) → checked r ≡ Ok tt → (x : X) × (r ≡ Ok x)
item_read (Ok x) e = (x, refl)
item_read (Err f) e = cc

only : (items : ItemChoice) (cs : List ℕ) → length cs ≡ 15 → item_check items cs ≡ Ok tt → ItemColumns items cs
only Patch cs n e = let r = item_read (patch_reading cs) e in (r.0, patch_only cs r.0 n r.1)
only Job cs n e = let r = item_read (job_reading cs) e in (r.0, job_only cs r.0 n r.1)

back : (items : ItemChoice) (cs : List ℕ) → ItemColumns items cs → item_check items cs ≡ Ok tt
back Patch cs h = ap checked (patch_back h.0 cs h.1)
back Job cs h = ap checked (job_back h.0 cs h.1)

wide : (items : ItemChoice) (cs : List ℕ) → ItemColumns items cs → length cs ≡ 15
wide Patch cs h = patch_wide h.0 cs h.1
wide Job cs h = job_wide h.0 cs h.1

printed : (items : ItemChoice) (cs : List ℕ) → ItemColumns items cs → Printed cs
printed Patch cs h = patch_printed h.0 cs h.1
printed Job cs h = job_printed h.0 cs h.1

pub item_laws : ItemLaws
item_laws = record { only = only; back = back; wide = wide; printed = printed }
