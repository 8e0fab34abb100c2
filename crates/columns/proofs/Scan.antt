-- The reader's pass, with numbers of any size: it finds the number that the columns write, and no other.
use Rattle.std.proofs.Common.{◌≡◌, ℕ, zero, suc, ◌+◌, ◌-◌, ◌*◌, ◌/◌, ◌%◌, ◌<◌, ◌≤◌, cond, eqb, List, [], ◌∷◌, ◌++◌, length, replicate, ℤ, pos, negsuc, Some, None, Option, refl, ap, ◌∙◌, inl, inr, arith}
use Rattle.std.proofs.lemmas.Bool.{cases_lt}
use Rattle.std.proofs.lemmas.Bool.Decides.{nat_tests}
use Rattle.columns.specs.Number.{digits, text, field}
use Rattle.columns.specs.Scanning.{digit_from}
use Rattle.columns.proofs.Texts.{high, digits_high, high_step, push}

pub data Scan : Type 0 where
  blanks : Scan
  minus : Scan
  so_far : ℤ → Scan
  spoilt : Scan

abbrev pub step : Scan → ℕ → Scan
step blanks c = cond (eqb c 32) blanks (cond (eqb c 45) minus (cond (digit_from 48 c) (so_far (pos (c - 48))) spoilt))
step minus c = cond (digit_from 49 c) (so_far (negsuc (c - 49))) spoilt
step (so_far (pos n)) c = cond (digit_from 48 c) (cond (eqb n 0) spoilt (so_far (push (pos n) (c - 48)))) spoilt
step (so_far (negsuc n)) c = cond (digit_from 48 c) (so_far (push (negsuc n) (c - 48))) spoilt
step spoilt c = spoilt

abbrev pub scan : Scan → List ℕ → Scan
scan s [] = s
scan s (c ∷ cs) = scan (step s c) cs

abbrev pub found : Scan → Option ℤ
found blanks = None
found minus = None
found (so_far z) = Some z
found spoilt = None

pub scan_append : (s : Scan) (xs ys : List ℕ) → scan s (xs ++ ys) ≡ scan (scan s xs) ys
scan_append s [] ys = refl
scan_append s (x ∷ xs) ys = scan_append (step s x) xs ys

-- what is written is found

scan_blanks : (k : ℕ) (cs : List ℕ) → scan blanks (replicate k 32 ++ cs) ≡ scan blanks cs
scan_blanks zero cs = refl
scan_blanks (suc k) cs = scan_blanks k cs

-- by recursion on f: digits that go on with g, from the first one on
scan_by : (s : Scan) (g : ℕ → ℤ) → ((d : ℕ) → 0 < d → d < 10 → step s (48 + d) ≡ so_far (g d)) → ((n d : ℕ) → 0 < n → d < 10 → step (so_far (g n)) (48 + d) ≡ so_far (g (n * 10 + d))) → (f n : ℕ) → n ≤ f → 0 < n → scan s (high n) ≡ so_far (g n)
scan_by s g one more zero n h p = absurd (omega arith)
scan_by s g one more (suc f) n h p =
    ap (scan s) (high_step n p) ∙ scan_append s (high (n / 10)) ((48 + n % 10) ∷ [])
    ∙ elim (cases_lt n 10) [
      | inl small ↦
          let z : n / 10 ≡ 0 = omega arith in
          let r : n % 10 ≡ n = omega arith in
          ap (λ m. step (scan s (high m)) (48 + n % 10)) z ∙ ap (λ m. step s (48 + m)) r ∙ one n p small
      | inr large ↦
          let b : n / 10 * 10 + n % 10 ≡ n = omega arith in
          ap (λ t. step t (48 + n % 10)) (scan_by s g one more f (n / 10) (omega arith) (omega arith))
          ∙ more (n / 10) (n % 10) (omega arith) (omega arith)
          ∙ ap (λ m. so_far (g m)) b
    ]

one_pos : (d : ℕ) → 0 < d → d < 10 → step blanks (48 + d) ≡ so_far (pos d)
one_pos d h k = let e : 48 + d - 48 ≡ d = omega arith in grind (arith, nat_tests)

more_pos : (n d : ℕ) → 0 < n → d < 10 → step (so_far (pos n)) (48 + d) ≡ so_far (pos (n * 10 + d))
more_pos n d h k = let e : 48 + d - 48 ≡ d = omega arith in grind (arith, nat_tests)

one_neg : (d : ℕ) → 0 < d → d < 10 → step minus (48 + d) ≡ so_far (negsuc (d - 1))
one_neg d h k = let e : 48 + d - 49 ≡ d - 1 = omega arith in grind (arith, nat_tests)

more_neg : (n d : ℕ) → 0 < n → d < 10 → step (so_far (negsuc (n - 1))) (48 + d) ≡ so_far (negsuc (n * 10 + d - 1))
more_neg n d h k = let e : (n - 1) * 10 + 9 + (48 + d - 48) ≡ n * 10 + d - 1 = omega arith in grind (arith, nat_tests)

pub scan_text : (z : ℤ) → scan blanks (text z) ≡ so_far z
unfolding text digits
scan_text (pos zero) = refl
scan_text (pos (suc n)) = ap (scan blanks) (digits_high (suc n) (omega arith)) ∙ scan_by blanks pos one_pos more_pos (suc n) (suc n) (omega arith) (omega arith)
scan_text (negsuc n) =
    let e : suc n - 1 ≡ n = omega arith in
    ap (scan minus) (digits_high (suc n) (omega arith)) ∙ scan_by minus (λ m. negsuc (m - 1)) one_neg more_neg (suc n) (suc n) (omega arith) (omega arith) ∙ ap (λ m. so_far (negsuc m)) e

pub scan_field : (w : ℕ) (z : ℤ) → scan blanks (field w z) ≡ so_far z
unfolding field
scan_field w z = scan_blanks (w - length (text z)) (text z) ∙ scan_text z
