-- A row of small numbers fits its columns.
use Rattle.std.proofs.Common.{◌≡◌, ◌^◌, ◌<◌, true, leb, List, [], ◌∷◌, length, pos, refl}
use Rattle.std.proofs.lemmas.Bool.{and_from, le-leb}
use Rattle.columns.specs.declared.row.Field.{Field}
use Rattle.columns.specs.Number.{text}
use Rattle.columns.specs.Row.{row_fits}
use Rattle.columns.proofs.Laws.{length_text}

-- each number is below the power of ten that its width names
abbrev pub Small : List Field → Type 0
Small [] = Unit {0}
Small (f ∷ fs) = (0 < f.width) × (f.number < 10 ^ f.width) × Small fs

pub small_fits : (fs : List Field) → Small fs → row_fits fs ≡ true
small_fits [] h = refl
small_fits (f ∷ fs) h =
    and_from (leb (length (text (pos f.number))) f.width) (row_fits fs) (le-leb (length (text (pos f.number))) f.width (length_text f.width f.number h.0 h.1)) (small_fits fs h.2)
