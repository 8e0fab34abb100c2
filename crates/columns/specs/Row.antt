-- Several numbers in columns, one behind the other.
use Rattle.std.specs.Prelude.{◌≡◌, ℕ, ◌+◌, ◌<◌, ◌≤◌, Bool, cond, List, [], ◌∷◌, ◌++◌, length, pos, Some, None, Ok, Err, Option, Result, nat_le, nat_lt}
use Rattle.std.specs.List.{list_all}
use Rattle.columns.specs.declared.write_refusal.WriteRefusal.{WriteRefusal}
use Rattle.columns.specs.declared.write_refusal.WriteRefusal.TheVariants.{Narrow, Range}
use Rattle.columns.specs.declared.row.Field.{Field}
use Rattle.columns.specs.Number.{text, field}
use Rattle.columns.specs.Writing.{put}

-- how many columns the numbers take together
abbrev pub row_width : List Field → ℕ
row_width [] = 0
row_width (f ∷ fs) = f.width + row_width fs

-- each number right-justified in its own columns
abbrev pub row_text : List Field → List ℕ
row_text [] = []
row_text (f ∷ fs) = field f.width (pos f.number) ++ row_text fs

-- each number fits its columns
abbrev pub row_fits : List Field → Bool
row_fits fs = list_all (λ f. nat_le (length (text (pos f.number))) f.width) fs

-- the buffer has to have all columns, then each number has to fit its own; a refusal leaves the buffer as it was
abbrev pub row_written : List Field → List ℕ → Result (Unit {0}) WriteRefusal × List ℕ
row_written fs buffer = cond (nat_lt (length buffer) (row_width fs)) (Err Narrow, buffer) (cond (row_fits fs) (Ok tt, put (row_text fs) buffer) (Err Range, buffer))

-- the numbers with a mark in front and an LF (10) behind
abbrev pub line_text : ℕ → List Field → List ℕ
line_text mark fs = mark ∷ (row_text fs ++ (10 ∷ []))

-- a line: the buffer has to have the mark, all columns and the LF, then each number has to fit; a refusal leaves the buffer as it was
abbrev pub line_written : ℕ → List Field → List ℕ → Result (Unit {0}) WriteRefusal × List ℕ
line_written mark fs buffer =
    cond (nat_lt (length buffer) (row_width fs + 2)) (Err Narrow, buffer) (cond (row_fits fs) (Ok tt, put (line_text mark fs) buffer) (Err Range, buffer))

-- where the columns end, if there is room for them
abbrev pub RowEnd : ℕ → ℕ → Option ℕ → Type 0
RowEnd width room (Some end) = (end ≡ width) × (width ≤ room)
RowEnd width room None = room < width
