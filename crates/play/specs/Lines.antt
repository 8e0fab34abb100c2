-- The lines of a text. Each ends with LF, but for what stands behind the last LF.
use Rattle.std.specs.Prelude.{ℕ, Bool, true, false, cond, List, [], ◌∷◌, ◌==◌}

-- the byte that ends a line
abbrev pub LF : ℕ
LF = 10

-- the columns of a line, and whether an LF stands behind them
pub record Line : Type 0 where
  pub columns : List ℕ
  pub ended : Bool

-- a byte in front of the first line
abbrev pub in_front : ℕ → List Line → List Line
in_front b [] = record { columns = b ∷ []; ended = false } ∷ []
in_front b (l ∷ ls) = record { columns = b ∷ l.columns; ended = l.ended } ∷ ls

-- the lines of the bytes, in their order; nothing behind the last LF is no line
abbrev pub lines_of : List ℕ → List Line
lines_of [] = []
lines_of (b ∷ bs) = cond (b == LF) (record { columns = []; ended = true } ∷ lines_of bs) (in_front b (lines_of bs))
