-- What a writer answers and leaves in the buffer.
use Rattle.std.specs.Prelude.{ℕ, cond, List, ◌++◌, length, drop, ℤ, Ok, Err, Result, nat_lt}
use Rattle.columns.specs.declared.write_refusal.WriteRefusal.{WriteRefusal}
use Rattle.columns.specs.declared.write_refusal.WriteRefusal.TheVariants.{Narrow, Range}
use Rattle.columns.specs.Number.{text, field}

-- a text over the front of a buffer; the bytes past it stay
abbrev pub put : List ℕ → List ℕ → List ℕ
put cs buffer = cs ++ drop (length cs) buffer

-- a number in `width` columns: the buffer has to have them, and the number has to fit them; a refusal leaves the buffer as it was
unfoldable pub written : ℕ → ℤ → List ℕ → Result (Unit {0}) WriteRefusal × List ℕ
written width z buffer =
    cond (nat_lt (length buffer) width) (Err Narrow, buffer)
    (cond (nat_lt width (length (text z))) (Err Range, buffer) (Ok tt, put (field width z) buffer))
