-- An item's text in fifteen columns, as a writer puts it over the front of a buffer.
use Rattle.std.specs.Prelude.{ℕ, ◌≤◌, cond, List, length, Some, None, Ok, Err, Option, Result, nat_lt}
use Rattle.std.specs.List.{AllByRecursion}
use Rattle.columns.specs.Writing.{put}
use Rattle.columns.specs.declared.write_refusal.WriteRefusal.{WriteRefusal}
use Rattle.columns.specs.declared.write_refusal.WriteRefusal.TheVariants.{Narrow, Range}

-- an item has fifteen columns
abbrev pub item_width : ℕ
item_width = 15

-- blanks and visible ASCII
abbrev pub Printed : List ℕ → Type 0
Printed cs = AllByRecursion (λ b. (32 ≤ b) × (b ≤ 126)) cs

-- the text over the front of the buffer; an item without a text has a number out of range
abbrev pub item_put : Option (List ℕ) → List ℕ → Result (Unit {0}) WriteRefusal × List ℕ
item_put None buffer = (Err Range, buffer)
item_put (Some cs) buffer = (Ok tt, put cs buffer)

-- the buffer has to have the columns, then the item has to have a text; a refusal leaves the buffer as it was
abbrev pub item_written : Option (List ℕ) → List ℕ → Result (Unit {0}) WriteRefusal × List ℕ
item_written text buffer = cond (nat_lt (length buffer) item_width) (Err Narrow, buffer) (item_put text buffer)
