-- A number as the writer holds it: a sign and a magnitude.
use Rattle.std.specs.Prelude.{ℕ, ◌-◌, Bool, true, false, List, [], ◌∷◌, ◌++◌, replicate, ℤ, pos, negsuc}

-- the number of a sign and a magnitude
abbrev pub signed : Bool → ℕ → ℤ
signed true n = negsuc (n - 1)
signed false n = pos n

-- the `k` columns before the digits: blanks, the last of them a minus where there is one
abbrev pub front : ℕ → Bool → List ℕ
front k true = replicate (k - 1) 32 ++ (45 ∷ [])
front k false = replicate k 32

-- how many columns a sign takes: a minus one, no minus none
abbrev pub sign_width : Bool → ℕ
sign_width true = 1
sign_width false = 0
