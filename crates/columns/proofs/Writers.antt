-- The writers' loops and the parts of a field.
use Rattle.std.proofs.Common.{◌≡◌, ℕ, suc, ◌+◌, ◌-◌, ◌/◌, ◌*◌, ◌^◌, ◌%◌, ◌<◌, ◌≤◌, Bool, true, false, List, [], ◌∷◌, ◌++◌, length, drop, replicate, ℤ, pos, negsuc, Ok, Err, sym, refl, ap, ◌∙◌, append_assoc, inl, inr, pow-suc, Some, None, Option, arith}
use borrow.Rule.Slice.PartMut.{put_mid}
use Rattle.std.proofs.lemmas.List.{drop_at, drop-drop, take_at, length-append, length-replicate}
use Rattle.std.proofs.lemmas.Bool.{cases_lt, cond-true, lt-ltb, le-ltb, ltb-true}
use lib.Signed.{lt_z}
use Rattle.std.specs.Prelude.{IfNone, IfSome, unsigned_abs}
use Rattle.std.specs.Int.{from_bool}
use Rattle.std.specs.Option.{option_map_or}
use Rattle.columns.specs.Number.{digits, text, field}
use Rattle.columns.specs.Signs.{front, sign_width, signed}
use Rattle.columns.specs.Writing.{put, written}
use Rattle.columns.specs.declared.write_refusal.WriteRefusal.TheVariants.{Narrow, Range}
use Rattle.columns.proofs.Laws.{digits_below, length_digits, written_fits, written_past}
use Rattle.columns.proofs.Texts.{digits_high, digits_last, digits_one}

-- by the highest power of ten that is not above the number
pub length_digits_power : (k n : ℕ) → 10 ^ k ≤ n → n < 10 * 10 ^ k → length (digits n) ≡ k + 1
length_digits_power k n lo hi =
    let e : 10 ^ suc k ≡ 10 ^ k * 10 = pow-suc 10 k in
    let at_most : length (digits n) ≤ suc k = length_digits (suc k) n (omega arith) (omega arith) in
    elim (cases_lt k (length (digits n))) [
      | inl more ↦ omega arith
      | inr few ↦ absurd (omega (arith, digits_below k n few))
    ]

pub digits_counted : (o : Option ℕ) (n : ℕ) → IfNone o (n ≡ 0) → IfSome o (λ k. 10 ^ k ≤ n) → IfSome o (λ k. n < 10 * 10 ^ k) → option_map_or (λ k. k + 1) o 1 ≡ length (digits n)
unfolding digits
digits_counted None n z lo hi = ap (λ m. length (digits m)) (sym z)
digits_counted (Some k) n z lo hi = sym (length_digits_power k n lo hi)

-- the last digit, and the others before it

pub digits_more : (n : ℕ) → 10 ≤ n → digits n ≡ digits (n / 10) ++ ((48 + n % 10) ∷ [])
digits_more n h = digits_last n ∙ ap (λ l. l ++ ((48 + n % 10) ∷ [])) (sym (digits_high (n / 10) (omega arith)))

pub digits_single : (n : ℕ) → n < 10 → digits n ≡ (48 + n % 10) ∷ []
digits_single n h = let r : n % 10 ≡ n = omega arith in digits_one n h ∙ ap (λ m. (48 + m) ∷ []) (sym r)

-- a field is its front and its digits

length_text_signed : (b : Bool) (n : ℕ) → (b ≡ true → 0 < n) → length (text (signed b n)) ≡ length (digits n) + sign_width b
unfolding text
length_text_signed true n h = let e : suc (n - 1) ≡ n = omega (arith, h refl) in ap (λ m. suc (length (digits m))) e ∙ omega arith
length_text_signed false n h = omega arith

field_parts : (w : ℕ) (b : Bool) (n : ℕ) → (b ≡ true → 0 < n) → length (digits n) + sign_width b ≤ w → field w (signed b n) ≡ front (w - length (digits n)) b ++ digits n
unfolding field text
field_parts w true n h room =
    let e : suc (n - 1) ≡ n = omega (arith, h refl) in
    let k : w - suc (length (digits (suc (n - 1)))) ≡ w - length (digits n) - 1 = omega (arith, ap (λ m. length (digits m)) e) in
    ap (λ m. replicate m 32 ++ (45 ∷ digits (suc (n - 1)))) k
    ∙ ap (λ m. replicate (w - length (digits n) - 1) 32 ++ (45 ∷ digits m)) e
    ∙ sym (append_assoc (replicate (w - length (digits n) - 1) 32) (45 ∷ []) (digits n))
field_parts w false n h room = refl

length_front : (k : ℕ) (b : Bool) → sign_width b ≤ k → length (front k b) ≡ k
length_front k true h = length-append (replicate (k - 1) 32) (45 ∷ []) ∙ omega (arith, length-replicate {A = ℕ} (k - 1) 32)
length_front k false h = length-replicate k 32

-- what is refused, and what is left after the two parts are written

pub written_narrow : (w : ℕ) (z : ℤ) (buffer : List ℕ) → length buffer < w → (Err Narrow, buffer) ≡ written w z buffer
unfolding written
written_narrow w z buffer h = sym (cond-true _ _ _ (lt-ltb (length buffer) w h))

written_wide : (w : ℕ) (b : Bool) (n : ℕ) (buffer : List ℕ) → (b ≡ true → 0 < n) → w ≤ length buffer → w < length (digits n) + sign_width b → (Err Range, buffer) ≡ written w (signed b n) buffer
written_wide w b n buffer h room wide = sym (written_past w (signed b n) buffer room (omega (arith, length_text_signed b n h)))

two_parts : (a k : ℕ) (buffer x y : List ℕ) → length x ≡ a → length y ≡ k → put_mid a k (put_mid 0 (a - 0) buffer x) y ≡ put (x ++ y) buffer
two_parts a k buffer x y ex ey =
    let z : a - 0 ≡ a = omega arith in
    let n : length (x ++ y) ≡ a + k = length-append x y ∙ omega arith in
    ap (λ m. put_mid a k (x ++ drop m buffer) y) z
    ∙ ap (λ l. l ++ (y ++ drop k (drop a (x ++ drop a buffer)))) (take_at x (drop a buffer) a ex)
    ∙ ap (λ l. x ++ (y ++ drop k l)) (drop_at x (drop a buffer) a ex)
    ∙ ap (λ l. x ++ (y ++ l)) (drop-drop k a buffer)
    ∙ sym (append_assoc x y (drop (a + k) buffer))
    ∙ ap (λ m. (x ++ y) ++ drop m buffer) (sym n)

joined_parts : (w a k : ℕ) (z : ℤ) (buffer x y : List ℕ) → length x ≡ a → length y ≡ k → x ++ y ≡ field w z → w ≤ length buffer → length (text z) ≤ w → (Ok tt, put_mid a k (put_mid 0 (a - 0) buffer x) y) ≡ written w z buffer
joined_parts w a k z buffer x y ex ey f room fits =
    let last : put_mid a k (put_mid 0 (a - 0) buffer x) y ≡ put (field w z) buffer = two_parts a k buffer x y ex ey ∙ ap (λ l. put l buffer) f in
    ap (λ l. (Ok tt, l)) last ∙ sym (written_fits w z buffer room fits)

written_parts : (w : ℕ) (b : Bool) (n a k : ℕ) (buffer x y : List ℕ) → (b ≡ true → 0 < n) → w ≤ length buffer → length (digits n) + sign_width b ≤ w → a ≡ w - length (digits n) → k ≡ w - a → x ≡ front a b → y ≡ digits n → (Ok tt, put_mid a k (put_mid 0 (a - 0) buffer x) y) ≡ written w (signed b n) buffer
written_parts w b n a k buffer x y h room fits ea ek ex ey =
    joined_parts w a k (signed b n) buffer x y (ap length ex ∙ length_front a b (omega arith)) (ap length ey ∙ omega arith)
    (ap (λ l. l ++ y) ex ∙ ap (λ l. front a b ++ l) ey ∙ ap (λ m. front m b ++ digits n) ea ∙ sym (field_parts w b n h fits))
    room (omega (arith, length_text_signed b n h))

-- the same, by a number

signed_parts : (z : ℤ) → signed (lt_z z (pos 0)) (unsigned_abs z) ≡ z
signed_parts (pos n) = ap (λ b. signed b n) (le-ltb n 0 (omega arith))
signed_parts (negsuc n) = ap negsuc (omega arith)

minus_some : (z : ℤ) → lt_z z (pos 0) ≡ true → 0 < unsigned_abs z
minus_some (pos n) e = absurd (omega (arith, ltb-true n 0 e))
minus_some (negsuc n) e = omega arith

width_of_sign : (b : Bool) → from_bool b ≡ sign_width b
width_of_sign true = refl
width_of_sign false = refl

pub number_wide : (w : ℕ) (z : ℤ) (buffer : List ℕ) → w ≤ length buffer → w < length (digits (unsigned_abs z)) + from_bool (lt_z z (pos 0)) → (Err Range, buffer) ≡ written w z buffer
number_wide w z buffer room wide =
    written_wide w (lt_z z (pos 0)) (unsigned_abs z) buffer (minus_some z) room (omega (arith, width_of_sign (lt_z z (pos 0)))) ∙ ap (λ y. written w y buffer) (signed_parts z)

pub number_parts : (w : ℕ) (z : ℤ) (a k : ℕ) (buffer x y : List ℕ) → w ≤ length buffer → length (digits (unsigned_abs z)) + from_bool (lt_z z (pos 0)) ≤ w → a ≡ w - length (digits (unsigned_abs z)) → k ≡ w - a → x ≡ front a (lt_z z (pos 0)) → y ≡ digits (unsigned_abs z) → (Ok tt, put_mid a k (put_mid 0 (a - 0) buffer x) y) ≡ written w z buffer
number_parts w z a k buffer x y room fits ea ek ex ey =
    written_parts w (lt_z z (pos 0)) (unsigned_abs z) a k buffer x y (minus_some z) room (omega (arith, width_of_sign (lt_z z (pos 0)))) ea ek ex ey ∙ ap (λ v. written w v buffer) (signed_parts z)
