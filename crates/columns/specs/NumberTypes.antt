-- What the number types that stand in columns have in common: as integers, all are ordered, read and tied to their columns alike.
use Rattle.std.specs.Prelude.{◌≡◌, ℕ, ◌^◌, ◌<◌, List, ℤ, ◌≤ℤ◌, Ok, Err, Result, unsigned_abs}
use Rattle.columns.specs.declared.read_refusal.ReadRefusal.{ReadRefusal}
use Rattle.columns.specs.Reading.{signed_reading, ReadsSigned}

-- an answer with its number as an integer
abbrev pub answer_of : {N : Type 0} → (N → ℤ) → Result N ReadRefusal → Result ℤ ReadRefusal
answer_of value (Ok n) = Ok (value n)
answer_of value (Err e) = Err e

-- what ties a type's order, reading and relation to those of integers
pub record NumberLaws {N : Type 0} (value : N → ℤ) (in_range : ℤ → Type 0) (at_most : N → N → Type 0) (reading : N → N → List ℕ → Result N ReadRefusal) (reads : N → N → List ℕ → Result N ReadRefusal → Type 0) : Type 0 where
  -- two values of one number are the same
  pub once : (m n : N) → value m ≡ value n → m ≡ n
  -- the order is that of integers
  pub ordered : (m n : N) → value m ≤ℤ value n → at_most m n
  -- what is between two numbers of the type is one of them
  pub between : (a b z : ℤ) → in_range a → in_range b → a ≤ℤ z → z ≤ℤ b → in_range z
  -- a sign and 64 bits hold each
  pub short : (z : ℤ) → in_range z → unsigned_abs z < 2 ^ 64
  -- a field is read as the same number as among integers
  pub read_as : (least most : N) (cs : List ℕ) → answer_of value (reading least most cs) ≡ signed_reading (value least) (value most) cs
  -- an answer's tie is that of integers, both ways
  pub tied : (least most : N) (cs : List ℕ) (r : Result N ReadRefusal) → ReadsSigned (value least) (value most) cs (answer_of value r) → reads least most cs r
  pub untied : (least most : N) (cs : List ℕ) (r : Result N ReadRefusal) → reads least most cs r → ReadsSigned (value least) (value most) cs (answer_of value r)
