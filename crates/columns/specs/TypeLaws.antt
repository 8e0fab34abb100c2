-- The number types keep their laws.
use Rattle.std.proofs.Common.{◌≡◌, ℕ, ◌^◌, ◌<◌, ◌≤◌, ◌&&◌, leb, List, ℤ, pos, negsuc, ◌≤ℤ◌, Some, None, Ok, Err, Option, Result, refl, ap, sym, ◌∙◌, subst, inl, inr, ⊎_elim, arith}
use Rattle.std.specs.Prelude.{FitsSigned, unsigned_abs}
use Rattle.std.specs.Int.{Width, FitsUnsigned}
use mir.Val.{bits, hbits}
use Rattle.std.proofs.lemmas.Int.{ints}
use native.Mathlib.Nat.{pow-le-pow_right}
use Rattle.std.proofs.lemmas.Bool.{cases_Bool, cond-true, cond-false}
use Rattle.columns.specs.declared.read_refusal.ReadRefusal.{ReadRefusal}
use Rattle.columns.specs.declared.read_refusal.ReadRefusal.TheVariants.{Form, Range}
use Rattle.columns.specs.Number.{number}
use Rattle.columns.specs.Reading.{unsigned_of, unsigned_reading, signed_of, signed_reading, ReadsUnsigned, ReadsSigned}
use Rattle.columns.specs.NumberTypes.{answer_of, NumberLaws}

pos_once : (m n : ℕ) → pos m ≡ pos n → m ≡ n
pos_once m n e = cc

pos_ordered : (m n : ℕ) → pos m ≤ℤ pos n → m ≤ n
pos_ordered m n h = omega (arith, ints)

unsigned_between : (w : Width) (a b z : ℤ) → FitsUnsigned w a → FitsUnsigned w b → a ≤ℤ z → z ≤ℤ b → FitsUnsigned w z
unsigned_between w a b z f g h k = (omega (arith, ints, f.0), omega (arith, ints, g.1))

unsigned_short : (w : Width) → bits w ≤ 64 → (z : ℤ) → FitsUnsigned w z → unsigned_abs z < 2 ^ 64
unsigned_short w h (pos n) f =
    let p : 2 ^ bits w ≤ 2 ^ 64 = pow-le-pow_right {n = 2} (omega arith) h in
    let b : n < 2 ^ bits w = omega (arith, ints, f.1) in
    omega arith
unsigned_short w h (negsuc n) f = absurd (omega (arith, ints, f.0))

unsigned_read_as : (least most : ℕ) (o : Option ℤ) → answer_of pos (unsigned_of least most o) ≡ signed_of (pos least) (pos most) o
unsigned_read_as least most None = refl
unsigned_read_as least most (Some (pos n)) =
    elim (cases_Bool (leb least n && leb n most)) [
      | inl is ↦ ap (answer_of pos) (cond-true _ _ _ is) ∙ sym (cond-true _ _ _ is)
      | inr is ↦ ap (answer_of pos) (cond-false _ _ _ is) ∙ sym (cond-false _ _ _ is)
    ]
unsigned_read_as least most (Some (negsuc n)) = refl

unsigned_tied : (least most : ℕ) (cs : List ℕ) (r : Result ℕ ReadRefusal) → ReadsSigned (pos least) (pos most) cs (answer_of pos r) → ReadsUnsigned least most cs r
unfolding ReadsSigned ReadsUnsigned
unsigned_tied least most cs (Ok n) h = (h.0, omega (arith, ints, h.1), omega (arith, ints, h.2))
unsigned_tied least most cs (Err Range) (pos n, h, o) = (pos n, h, ⊎_elim (λ x. inl (omega (arith, ints, x))) (λ x. inr (omega (arith, ints, x))) o)
unsigned_tied least most cs (Err Range) (negsuc n, h, o) = (negsuc n, h, tt)
unsigned_tied least most cs (Err Form) h = h

unsigned_untied : (least most : ℕ) (cs : List ℕ) (r : Result ℕ ReadRefusal) → ReadsUnsigned least most cs r → ReadsSigned (pos least) (pos most) cs (answer_of pos r)
unfolding ReadsSigned ReadsUnsigned
unsigned_untied least most cs (Ok n) h = (h.0, omega (arith, ints, h.1), omega (arith, ints, h.2))
unsigned_untied least most cs (Err Range) (pos n, h, o) = (pos n, h, ⊎_elim (λ x. inl (omega (arith, ints, x))) (λ x. inr (omega (arith, ints, x))) o)
unsigned_untied least most cs (Err Range) (negsuc n, h, o) = (negsuc n, h, inl (omega (arith, ints)))
unsigned_untied least most cs (Err Form) h = h

pub unsigned_laws : (w : Width) → bits w ≤ 64 → NumberLaws pos (FitsUnsigned w) (λ m n. m ≤ n) unsigned_reading ReadsUnsigned
unfolding unsigned_reading signed_reading
unsigned_laws w h = record {
  once = pos_once;
  ordered = pos_ordered;
  between = unsigned_between w;
  short = unsigned_short w h;
  read_as = λ least most cs. unsigned_read_as least most (number cs);
  tied = unsigned_tied;
  untied = unsigned_untied;
}

signed_between : (w : Width) (a b z : ℤ) → FitsSigned w a → FitsSigned w b → a ≤ℤ z → z ≤ℤ b → FitsSigned w z
signed_between w a (pos b) (pos n) f g h k = record { sfits = omega (arith, ints, g.sfits, k) }
signed_between w a (negsuc b) (pos n) f g h k = absurd (omega (arith, ints, k))
signed_between w (pos a) b (negsuc n) f g h k = absurd (omega (arith, ints, h))
signed_between w (negsuc a) b (negsuc n) f g h k = record { sfits = omega (arith, ints, f.sfits, h) }

signed_short : (w : Width) → hbits w ≤ 63 → (z : ℤ) → FitsSigned w z → unsigned_abs z < 2 ^ 64
signed_short w h (pos n) f = let p : 2 ^ hbits w ≤ 2 ^ 63 = pow-le-pow_right {n = 2} (omega arith) h in omega (arith, f.sfits)
signed_short w h (negsuc n) f = let p : 2 ^ hbits w ≤ 2 ^ 63 = pow-le-pow_right {n = 2} (omega arith) h in omega (arith, f.sfits)

answer_same : (r : Result ℤ ReadRefusal) → answer_of (λ z. z) r ≡ r
answer_same (Ok z) = refl
answer_same (Err e) = refl

pub signed_laws : (w : Width) → hbits w ≤ 63 → NumberLaws (λ z. z) (FitsSigned w) (λ y z. y ≤ℤ z) signed_reading ReadsSigned
signed_laws w h = record {
  once = λ y z e. e;
  ordered = λ y z e. e;
  between = signed_between w;
  short = signed_short w h;
  read_as = λ least most cs. answer_same (signed_reading least most cs);
  tied = λ least most cs r h. subst (ReadsSigned least most cs) (answer_same r) h;
  untied = λ least most cs r h. subst (ReadsSigned least most cs) (sym (answer_same r)) h;
}
