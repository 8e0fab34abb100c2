-- A number in columns: decimal, right-justified, blanks before it, no leading zero; a minus stands against the first digit, and zero has none.
use Rattle.std.specs.Prelude.{◌≡◌, ℕ, suc, ◌+◌, ◌-◌, cond, List, [], ◌∷◌, ◌++◌, map, length, replicate, ℤ, pos, negsuc, neg_ℤ, Some, None, Option, ◌==◌}
use Rattle.std.specs.Int.Digits.{digits_of, number_from_digits as number_in}
use Rattle.std.specs.Str.{bytes_eq}

-- the decimal digits, the highest first
unfoldable pub digits : ℕ → List ℕ
digits n = cond (n == 0) (48 ∷ []) (map (λ d. 48 + d) (digits_of 10 n))

-- a number as it is written
unfoldable pub text : ℤ → List ℕ
text (pos n) = digits n
text (negsuc n) = 45 ∷ digits (suc n)

-- a number in w columns
unfoldable pub field : ℕ → ℤ → List ℕ
field w z = replicate (w - length (text z)) 32 ++ text z

-- these columns write this number
unfoldable pub Writes : List ℕ → ℤ → Type 0
Writes cs z = cs ≡ field (length cs) z

-- what the digits among the columns come to; blanks and a minus count as zeros
abbrev pub worth : List ℕ → ℕ
worth cs = number_in 10 (map (λ c. c - 48) cs)

-- which number the columns write, if they write one
unfoldable pub number : List ℕ → Option ℤ
number cs =
    let n = worth cs in
    cond (bytes_eq cs (field (length cs) (pos n))) (Some (pos n))
    (cond (bytes_eq cs (field (length cs) (neg_ℤ (pos n)))) (Some (neg_ℤ (pos n))) None)
