-- The text of a number grows by a digit at its end.
use Rattle.std.proofs.Common.{◌≡◌, ℕ, zero, suc, ◌+◌, ◌*◌, ◌/◌, ◌%◌, ◌<◌, eqb, List, [], ◌∷◌, ◌++◌, map, ℤ, pos, negsuc, sym, refl, ap, ◌∙◌, arith}
use Rattle.std.specs.Int.Digits.{digits_of}
use Rattle.std.proofs.lemmas.Int.Digits.{digits_of_step}
use Rattle.std.proofs.lemmas.List.{map_push}
use Rattle.std.proofs.lemmas.Bool.{ne_eqb, cond-false}
use Rattle.columns.specs.Number.{digits, text}

-- the digits above the last one, none for a number of one digit
abbrev pub high : ℕ → List ℕ
high n = map (λ d. 48 + d) (digits_of 10 n)

pub high_step : (n : ℕ) → 0 < n → high n ≡ high (n / 10) ++ ((48 + n % 10) ∷ [])
high_step n h = ap (map (λ d. 48 + d)) (digits_of_step 10 n (omega arith) h) ∙ map_push (λ d. 48 + d) (digits_of 10 (n / 10)) (n % 10)

pub digits_high : (n : ℕ) → 0 < n → digits n ≡ high n
unfolding digits
digits_high n h = cond-false (eqb n 0) (48 ∷ []) (high n) (ne_eqb n 0 (omega arith))

-- the last digit always stands
pub digits_last : (n : ℕ) → digits n ≡ high (n / 10) ++ ((48 + n % 10) ∷ [])
unfolding digits
digits_last zero = refl
digits_last (suc n) = digits_high (suc n) (omega arith) ∙ high_step (suc n) (omega arith)

pub digits_push : (n d : ℕ) → 0 < n → d < 10 → digits (n * 10 + d) ≡ digits n ++ ((48 + d) ∷ [])
digits_push n d h k =
    let q : (n * 10 + d) / 10 ≡ n = omega arith in
    let r : (n * 10 + d) % 10 ≡ d = omega arith in
    digits_last (n * 10 + d) ∙ ap (λ x. high x ++ ((48 + (n * 10 + d) % 10) ∷ [])) q ∙ ap (λ x. high n ++ ((48 + x) ∷ [])) r ∙ ap (λ l. l ++ ((48 + d) ∷ [])) (sym (digits_high n h))

pub digits_one : (d : ℕ) → d < 10 → digits d ≡ (48 + d) ∷ []
digits_one d k =
    let q : d / 10 ≡ 0 = omega arith in
    let r : d % 10 ≡ d = omega arith in
    digits_last d ∙ ap (λ x. high x ++ ((48 + d % 10) ∷ [])) q ∙ ap (λ x. (48 + x) ∷ []) r

-- a number with one more digit, of the same sign
abbrev pub push : ℤ → ℕ → ℤ
push (pos n) d = pos (n * 10 + d)
push (negsuc n) d = negsuc (n * 10 + 9 + d)

pub text_push_pos : (n d : ℕ) → 0 < n → d < 10 → text (push (pos n) d) ≡ text (pos n) ++ ((48 + d) ∷ [])
unfolding text
text_push_pos n d h k = digits_push n d h k

pub text_push_neg : (n d : ℕ) → d < 10 → text (push (negsuc n) d) ≡ text (negsuc n) ++ ((48 + d) ∷ [])
unfolding text
text_push_neg n d k =
    let e : suc (n * 10 + 9 + d) ≡ suc n * 10 + d = omega arith in
    ap (λ m. 45 ∷ digits m) e ∙ ap (λ l. 45 ∷ l) (digits_push (suc n) d (omega arith) k)
