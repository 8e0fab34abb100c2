-- What a field is read as: the number that its columns write, if that is in range.
use Rattle.std.specs.Prelude.{ℕ, ◌<◌, ◌≤◌, cond, ◌&&◌, ◌⊎◌, List, ℤ, pos, negsuc, ◌≤ℤ◌, ◌<ℤ◌, Some, None, Ok, Err, Option, Result, int_le, nat_le}
use Rattle.columns.specs.declared.read_refusal.ReadRefusal.{ReadRefusal}
use Rattle.columns.specs.declared.read_refusal.ReadRefusal.TheVariants.{Form, Range}
use Rattle.columns.specs.Number.{number, Writes}

-- by the number that the columns write: no number is a fault of form, a negative one or one out of range a fault of range
abbrev pub unsigned_of : ℕ → ℕ → Option ℤ → Result ℕ ReadRefusal
unsigned_of least most None = Err Form
unsigned_of least most (Some (pos n)) = cond (nat_le least n && nat_le n most) (Ok n) (Err Range)
unsigned_of least most (Some (negsuc n)) = Err Range

-- a number from `least` to `most`, none of them negative
unfoldable pub unsigned_reading : ℕ → ℕ → List ℕ → Result ℕ ReadRefusal
unsigned_reading least most cs = unsigned_of least most (number cs)

-- no number is a fault of form, one out of range a fault of range
abbrev pub signed_of : ℤ → ℤ → Option ℤ → Result ℤ ReadRefusal
signed_of least most None = Err Form
signed_of least most (Some z) = cond (int_le least z && int_le z most) (Ok z) (Err Range)

-- a number from `least` to `most`
unfoldable pub signed_reading : ℤ → ℤ → List ℕ → Result ℤ ReadRefusal
signed_reading least most cs = signed_of least most (number cs)

-- below `least`, above `most`, or negative
abbrev pub OutsideUnsigned : ℕ → ℕ → ℤ → Type 0
OutsideUnsigned least most (pos n) = (n < least) ⊎ (most < n)
OutsideUnsigned least most (negsuc n) = Unit {0}

-- how an answer is tied to the columns: a number that they write and that is in range; or they write one out of range; or they write none
unfoldable pub ReadsUnsigned : ℕ → ℕ → List ℕ → Result ℕ ReadRefusal → Type 0
ReadsUnsigned least most cs (Ok n) = Writes cs (pos n) × (least ≤ n) × (n ≤ most)
ReadsUnsigned least most cs (Err Range) = (z : ℤ) × Writes cs z × OutsideUnsigned least most z
ReadsUnsigned least most cs (Err Form) = (z : ℤ) → Writes cs z → ⊥

-- the same where the range may have negative numbers
unfoldable pub ReadsSigned : ℤ → ℤ → List ℕ → Result ℤ ReadRefusal → Type 0
ReadsSigned least most cs (Ok z) = Writes cs z × (least ≤ℤ z) × (z ≤ℤ most)
ReadsSigned least most cs (Err Range) = (z : ℤ) × Writes cs z × ((z <ℤ least) ⊎ (most <ℤ z))
ReadsSigned least most cs (Err Form) = (z : ℤ) → Writes cs z → ⊥
