-- What the reader's pass has seen of the columns so far, and what one more column makes of it.
use Rattle.std.specs.Prelude.{ℕ, ◌+◌, ◌-◌, ◌*◌, ◌^◌, Bool, cond, ◌&&◌, ℤ, pos, neg_ℤ, Some, None, Ok, Err, Option, Result, ◌==◌, int_le, nat_le, nat_lt, unsigned_abs}
use Rattle.columns.specs.declared.read_refusal.ReadRefusal.{ReadRefusal}
use Rattle.columns.specs.declared.read_refusal.ReadRefusal.TheVariants.{Range}
use Rattle.columns.specs.declared.scanning.Seen.{Seen}
use Rattle.columns.specs.declared.scanning.Seen.TheVariants.{Blanks, Minus, Number, Long, Nothing}
use Rattle.columns.specs.declared.scanning.Sign.{Sign}
use Rattle.columns.specs.declared.scanning.Sign.TheVariants.{Positive, Negative}

-- the first number that 64 bits don't hold
abbrev pub long : ℕ
long = 2 ^ 64

-- a number as the code holds it: past 64 bits, of either sign, the first that they don't hold
abbrev pub held : ℤ → ℤ
held z = cond (nat_lt (unsigned_abs z) long) z (pos long)

-- one more digit behind a magnitude, while 64 bits hold it
abbrev pub more : ℕ → ℕ → Option ℕ
more n d = cond (nat_lt (n * 10 + d) long) (Some (n * 10 + d)) None

-- a number of this sign and magnitude, or a long one
abbrev pub sized : Sign → Option ℕ → Seen
sized sign None = Long
sized sign (Some n) = Number sign n

-- a number with one more digit behind it: none follows a first zero
abbrev pub with_digit : Sign → ℕ → ℕ → Seen
with_digit sign n d = cond (n == 0) Nothing (sized sign (more n d))

-- the byte is a digit, from the byte `low` to 9 (57)
abbrev pub digit_from : ℕ → ℕ → Bool
digit_from low c = nat_le low c && nat_le c 57

-- what one more column makes of what was seen: blanks, then a minus or none, then digits; anything else is no number, whatever follows
abbrev pub seen_after : Seen → ℕ → Seen
seen_after Blanks c = cond (c == 32) Blanks (cond (c == 45) Minus (cond (digit_from 48 c) (Number Positive (c - 48)) Nothing))
seen_after Minus c = cond (digit_from 49 c) (Number Negative (c - 48)) Nothing
seen_after (Number sign n) c = cond (digit_from 48 c) (with_digit sign n (c - 48)) Nothing
seen_after Long c = cond (digit_from 48 c) Long Nothing
seen_after Nothing c = Nothing

-- the number that the columns have come to
abbrev pub seen_number : Seen → Option ℤ
seen_number Blanks = None
seen_number Minus = None
seen_number (Number Positive n) = Some (pos n)
seen_number (Number Negative n) = Some (neg_ℤ (pos n))
seen_number Long = Some (pos long)
seen_number Nothing = None

-- the number, if it is in range
abbrev pub signed_within : ℤ → ℤ → Option ℤ → Result ℤ ReadRefusal
signed_within least most None = Err Range
signed_within least most (Some z) = cond (int_le least z && int_le z most) (Ok z) (Err Range)
