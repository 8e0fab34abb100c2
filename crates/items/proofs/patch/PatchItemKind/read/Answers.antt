use Rattle.std.proofs.Common.{Ok, sym, ap, ◌∙◌, SFits, rules}
use Rattle.std.specs.Int.{w16}
use Rattle.std.proofs.lemmas.Int.{to_z-of_z}
use Rattle.columns.specs.Faults.{at_column}
use Rattle.items.specs.Patches.{patch_made}
use Rattle.items.specs.Patch.{patch_reading}
use Rattle.items.proofs.patch.PatchItemKind.read.Goals as goal

pub returns-in_err-face : goal.returns-in_err-face
unfolding patch_reading
returns-in_err-face c = search rules

pub returns-in_err-zone : goal.returns-in_err-zone
unfolding patch_reading
returns-in_err-zone c = search rules

pub returns-in_err-level : goal.returns-in_err-level
unfolding patch_reading
returns-in_err-level c = search rules

pub returns : goal.returns
unfolding patch_reading
returns c =
    let fits : SFits w16 c.in_ok-level.level = search rules in
    ap (λ z. Ok (record { face = c.in_ok-face.face; zone = c.in_ok-zone.zone; level = z })) (to_z-of_z w16 c.in_ok-level.level fits)
    ∙ patch_made _ _ _ _ _ _ (sym c.in_ok-face.was ∙ c.at_column.ensures ∙ ap (at_column 1) c.read_number.ensures.value)
    (sym c.in_ok-zone.was ∙ c.at_column-2.ensures ∙ ap (at_column 9) c.read_number-2.ensures.value)
    (sym c.in_ok-level.was ∙ c.at_column-3.ensures ∙ ap (at_column 13) c.read_number-3.ensures.value)
