-- What a field's text says of its number, and a number of its field: what other crates use.
use Rattle.std.proofs.Common.{◌≡◌, ℕ, zero, suc, ◌+◌, ◌-◌, ◌^◌, ◌<◌, ◌≤◌, true, false, cond, ◌&&◌, leb, List, [], ◌∷◌, ◌++◌, map, length, replicate, ℤ, pos, negsuc, neg_ℤ, nat_abs, ◌≤ℤ◌, ◌<ℤ◌, Some, None, Ok, Err, Option, Result, sym, refl, ap, ◌∙◌, subst, inl, inr, arith}
use native.Mathlib.Nat.{one-le-pow, pow-le-pow_right}
use lib.Signed.{le_z}
use Rattle.std.proofs.lemmas.Int.{ints}
use Rattle.std.specs.Int.Digits.{digits_of, number_from_digits as number_in}
use Rattle.std.specs.List.{AllByRecursion}
use Rattle.std.specs.Str.{bytes_eq}
use Rattle.std.proofs.lemmas.Int.Digits.{number_digits_of, number_lt, length-digits_of-le, all_below_base_digits_of}
use Rattle.std.proofs.ByRecursion.{All-append, All-map, All-weaker}
use Rattle.std.proofs.lemmas.Slice.Eq.{bytes_eq-Decides}
use Rattle.std.proofs.lemmas.List.{append-nil, drop_all, length-append, length-map, length-replicate}
use Rattle.std.proofs.lemmas.Bool.{cases_Bool, cases_lt, lt-ltb, le-ltb, cond-true, cond-false, and_from, and_parts, le-leb, leb-true}
use Rattle.columns.specs.Number.{digits, text, field, worth, number, Writes}
use Rattle.columns.specs.Reading.{unsigned_of, unsigned_reading, signed_of, signed_reading}
use Rattle.columns.specs.declared.read_refusal.ReadRefusal.{ReadRefusal}
use Rattle.columns.specs.declared.read_refusal.ReadRefusal.TheVariants.{Range}
use Rattle.columns.specs.Writing.{put, written}
use Rattle.columns.specs.declared.write_refusal.WriteRefusal.{WriteRefusal}
use Rattle.columns.specs.declared.write_refusal.WriteRefusal.TheVariants as refusing
use Rattle.columns.proofs.Scan.{blanks, scan, scan_field}
use Rattle.columns.proofs.Texts.{high, digits_high}

pub leZ_true : (a b : ℤ) → a ≤ℤ b → le_z a b ≡ true
leZ_true a b h = grind (arith, ints)

pub true_leZ : (a b : ℤ) → le_z a b ≡ true → a ≤ℤ b
true_leZ a b e = grind (arith, ints)

pub false_leZ : (a b : ℤ) → le_z a b ≡ false → b <ℤ a
false_leZ a b e = grind (arith, ints)

pub ltZ_false : (a b : ℤ) → b <ℤ a → le_z a b ≡ false
ltZ_false a b h = grind (arith, ints)

-- a field's text determines its number
pub field_once : (v w : ℕ) (y z : ℤ) → field v y ≡ field w z → y ≡ z
field_once v w y z e =
    let a = scan_field v y in
    let b = scan_field w z in
    let s : scan blanks (field v y) ≡ scan blanks (field w z) = ap (scan blanks) e in
    cc

pub writes_once : (cs : List ℕ) (y z : ℤ) → Writes cs y → Writes cs z → y ≡ z
unfolding Writes
writes_once cs y z e f = field_once (length cs) (length cs) y z (sym e ∙ f)

-- a number that is accepted when its field is the columns
unfoldable pick : List ℕ → ℤ → Option ℤ → Option ℤ
pick cs z other = cond (bytes_eq cs (field (length cs) z)) (Some z) other

pick_yes : (cs : List ℕ) (z : ℤ) (other : Option ℤ) → cs ≡ field (length cs) z → pick cs z other ≡ Some z
unfolding pick
pick_yes cs z other e = cond-true _ _ _ ((bytes_eq-Decides cs (field (length cs) z)).1 e)

pick_no : (cs : List ℕ) (z : ℤ) (other : Option ℤ) → (cs ≡ field (length cs) z → ⊥) → pick cs z other ≡ other
unfolding pick
pick_no cs z other no' =
    elim (cases_Bool (bytes_eq cs (field (length cs) z))) [
      | inl is ↦ absurd (no' ((bytes_eq-Decides cs (field (length cs) z)).0 is))
      | inr is ↦ cond-false _ _ _ is
    ]

pick_only : (cs : List ℕ) (y z : ℤ) (other : Option ℤ) → (other ≡ Some z → cs ≡ field (length cs) z) → pick cs y other ≡ Some z → cs ≡ field (length cs) z
unfolding pick
pick_only cs y z other h e =
    elim (cases_Bool (bytes_eq cs (field (length cs) y))) [
      | inl is ↦
          let f : Some y ≡ Some z = sym (cond-true _ _ _ is) ∙ e in
          let g : y ≡ z = cc in
          (bytes_eq-Decides cs (field (length cs) y)).0 is ∙ ap (field (length cs)) g
      | inr is ↦ h (sym (cond-false _ _ _ is) ∙ e)
    ]

number_picks : (cs : List ℕ) → number cs ≡ pick cs (pos (worth cs)) (pick cs (neg_ℤ (pos (worth cs))) None)
unfolding number pick
number_picks cs = refl

pub number_writes : (cs : List ℕ) (z : ℤ) → number cs ≡ Some z → cs ≡ field (length cs) z
number_writes cs z e = pick_only cs (pos (worth cs)) z _ (pick_only cs (neg_ℤ (pos (worth cs))) z None (λ f. cc)) (sym (number_picks cs) ∙ e)

-- a field is as wide as it should be

pub length_field_max : (w : ℕ) (z : ℤ) → length (field w z) ≡ (w - length (text z)) + length (text z)
unfolding field
length_field_max w z = length-append (replicate (w - length (text z)) 32) (text z) ∙ ap (λ n. n + length (text z)) (length-replicate (w - length (text z)) 32)

pub length_field : (w : ℕ) (z : ℤ) → length (text z) ≤ w → length (field w z) ≡ w
length_field w z h = length_field_max w z ∙ omega arith

-- a field is its own columns' field
pub field_again : (w : ℕ) (z : ℤ) → field (length (field w z)) z ≡ field w z
unfolding field
field_again w z =
    let e : length (field w z) - length (text z) ≡ w - length (text z) = omega (arith, length_field_max w z) in
    ap (λ k. replicate k 32 ++ text z) e

worth_blanks : (k : ℕ) (cs : List ℕ) → worth (replicate k 32 ++ cs) ≡ worth cs
worth_blanks zero cs = refl
worth_blanks (suc k) cs = worth_blanks k cs

glyphs : (ds : List ℕ) → map (λ c. c - 48) (map (λ d. 48 + d) ds) ≡ ds
glyphs [] = refl
glyphs (d ∷ ds) = let e : 48 + d - 48 ≡ d = omega arith in ap (λ x. x ∷ map (λ c. c - 48) (map (λ y. 48 + y) ds)) e ∙ ap (λ l. d ∷ l) (glyphs ds)

worth_digits : (n : ℕ) → worth (digits n) ≡ n
unfolding digits
worth_digits zero = refl
worth_digits (suc n) =
    ap worth (digits_high (suc n) (omega arith)) ∙ ap (number_in 10) (glyphs (digits_of 10 (suc n))) ∙ number_digits_of 10 (suc n) (omega arith)

worth_field : (w : ℕ) (z : ℤ) → worth (field w z) ≡ nat_abs z
unfolding field text
worth_field w (pos n) = worth_blanks (w - length (text (pos n))) (text (pos n)) ∙ worth_digits n
worth_field w (negsuc n) = worth_blanks (w - length (text (negsuc n))) (text (negsuc n)) ∙ worth_digits (suc n)

picked : (w : ℕ) (z : ℤ) → pick (field w z) (pos (nat_abs z)) (pick (field w z) (neg_ℤ (pos (nat_abs z))) None) ≡ Some z
picked w (pos n) = pick_yes _ (pos n) _ (sym (field_again w (pos n)))
picked w (negsuc n) =
    pick_no _ (pos (suc n)) _ (λ e. let f : negsuc n ≡ pos (suc n) = field_once w (length (field w (negsuc n))) (negsuc n) (pos (suc n)) e in cc)
    ∙ pick_yes _ (negsuc n) _ (sym (field_again w (negsuc n)))

-- what is written is read, also where the text is wider than w
pub number_of_field : (w : ℕ) (z : ℤ) → number (field w z) ≡ Some z
number_of_field w z =
    number_picks (field w z) ∙ ap (λ n. pick (field w z) (pos n) (pick (field w z) (neg_ℤ (pos n)) None)) (worth_field w z) ∙ picked w z

pub writes_from_number : (cs : List ℕ) (z : ℤ) → number cs ≡ Some z → Writes cs z
unfolding Writes
writes_from_number cs z e = number_writes cs z e

pub number_from_writes : (cs : List ℕ) (z : ℤ) → Writes cs z → number cs ≡ Some z
unfolding Writes
number_from_writes cs z e = ap number e ∙ number_of_field (length cs) z

-- every column of a field is printed

printed_high : (n : ℕ) → AllByRecursion (λ b. (32 ≤ b) × (b ≤ 126)) (high n)
printed_high n =
    All-map (λ b. (32 ≤ b) × (b ≤ 126)) (λ d. 48 + d) (digits_of 10 n)
    (All-weaker (λ d. d < 10) (λ d. (32 ≤ 48 + d) × (48 + d ≤ 126)) (λ d h. (omega arith, omega arith)) (digits_of 10 n) (all_below_base_digits_of 10 n (omega arith)))

printed_digits : (n : ℕ) → AllByRecursion (λ b. (32 ≤ b) × (b ≤ 126)) (digits n)
unfolding digits
printed_digits zero = ((omega arith, omega arith), tt)
printed_digits (suc n) = subst (AllByRecursion (λ b. (32 ≤ b) × (b ≤ 126))) (sym (digits_high (suc n) (omega arith))) (printed_high (suc n))

pub printed_text : (z : ℤ) → AllByRecursion (λ b. (32 ≤ b) × (b ≤ 126)) (text z)
unfolding text
printed_text (pos n) = printed_digits n
printed_text (negsuc n) = ((omega arith, omega arith), printed_digits (suc n))

pub printed_blanks : (k : ℕ) → AllByRecursion (λ b. (32 ≤ b) × (b ≤ 126)) (replicate k 32)
printed_blanks zero = tt
printed_blanks (suc k) = ((omega arith, omega arith), printed_blanks k)

pub printed_field : (w : ℕ) (z : ℤ) → AllByRecursion (λ b. (32 ≤ b) × (b ≤ 126)) (field w z)
unfolding field
printed_field w z = All-append _ (replicate (w - length (text z)) 32) (text z) (printed_blanks (w - length (text z))) (printed_text z)

-- how many columns a number takes

pub length_digits : (k n : ℕ) → 0 < k → n < 10 ^ k → length (digits n) ≤ k
unfolding digits
length_digits k zero p h = p
length_digits k (suc n) p h =
    let e : length (digits (suc n)) ≡ length (digits_of 10 (suc n)) = ap length (digits_high (suc n) (omega arith)) ∙ length-map (digits_of 10 (suc n)) (λ d. 48 + d) in
    omega (arith, length-digits_of-le 10 k (suc n) (omega arith) h)

pub digits_below : (k n : ℕ) → length (digits n) ≤ k → n < 10 ^ k
digits_below k zero h = one-le-pow k 10 (omega arith)
digits_below k (suc n) h =
    let e : length (digits (suc n)) ≡ length (digits_of 10 (suc n)) = ap length (digits_high (suc n) (omega arith)) ∙ length-map (digits_of 10 (suc n)) (λ d. 48 + d) in
    let p : 10 ^ length (digits_of 10 (suc n)) ≤ 10 ^ k = pow-le-pow_right {n = 10} (omega arith) (omega arith) in
    omega (arith, number_lt 10 (digits_of 10 (suc n)) (all_below_base_digits_of 10 (suc n) (omega arith)), number_digits_of 10 (suc n) (omega arith))

pub length_text : (k n : ℕ) → 0 < k → n < 10 ^ k → length (text (pos n)) ≤ k
unfolding text
length_text k n p h = length_digits k n p h

-- a negative number takes one column more
pub length_text_below : (k n : ℕ) → 0 < k → suc n < 10 ^ k → length (text (negsuc n)) ≤ suc k
unfolding text
length_text_below k n p h = omega (arith, length_digits k (suc n) p h)

-- a number whose text fits is below the power

pub text_below : (k n : ℕ) → length (text (pos n)) ≤ k → n < 10 ^ k
unfolding text
text_below k n h = digits_below k n h

pub text_above : (k n : ℕ) → length (text (negsuc n)) ≤ suc k → suc n < 10 ^ k
unfolding text
text_above k n h = digits_below k (suc n) (omega arith)

-- a field is read as its number, and as no other

in_range : (least most n : ℕ) → least ≤ n → n ≤ most → (leb least n && leb n most) ≡ true
in_range least most n l m = and_from _ _ (le-leb least n l) (le-leb n most m)

pub unsigned_back : (w least most n : ℕ) → 0 < w → most < 10 ^ w → least ≤ n → n ≤ most → unsigned_reading least most (field w (pos n)) ≡ Ok n
unfolding unsigned_reading
unsigned_back w least most n p b l m = ap (unsigned_of least most) (number_of_field w (pos n)) ∙ cond-true _ _ _ (in_range least most n l m)

unsigned_ok : (least most n : ℕ) (o : Option ℤ) → unsigned_of least most o ≡ Ok n → (o ≡ Some (pos n)) × (least ≤ n) × (n ≤ most)
unsigned_ok least most n None e = cc
unsigned_ok least most n (Some (negsuc m)) e = cc
unsigned_ok least most n (Some (pos m)) e =
    elim (cases_Bool (leb least m && leb m most)) [
      | inl is ↦
          let f : ◌≡◌ {A = Result ℕ ReadRefusal} (Ok m) (Ok n) = sym (cond-true _ _ _ is) ∙ e in
          let g : m ≡ n = cc in
          let b : (leb least m ≡ true) × (leb m most ≡ true) = and_parts _ _ is in
          (ap (λ x. Some (pos x)) g, omega (arith, leb-true least m b.0), omega (arith, leb-true m most b.1))
      | inr is ↦ let f : ◌≡◌ {A = Result ℕ ReadRefusal} (Err Range) (Ok n) = sym (cond-false _ _ _ is) ∙ e in cc
    ]

pub unsigned_only : (least most : ℕ) (cs : List ℕ) (n : ℕ) → unsigned_reading least most cs ≡ Ok n → (cs ≡ field (length cs) (pos n)) × (least ≤ n) × (n ≤ most)
unfolding unsigned_reading
unsigned_only least most cs n e = let h = unsigned_ok least most n (number cs) e in (number_writes cs (pos n) h.0, h.1, h.2)

pub signed_back : (w : ℕ) (least most z : ℤ) → least ≤ℤ z → z ≤ℤ most → signed_reading least most (field w z) ≡ Ok z
unfolding signed_reading
signed_back w least most z l m =
    ap (signed_of least most) (number_of_field w z) ∙ cond-true _ _ _ (and_from _ _ (leZ_true least z l) (leZ_true z most m))

signed_ok : (least most z : ℤ) (o : Option ℤ) → signed_of least most o ≡ Ok z → (o ≡ Some z) × (least ≤ℤ z) × (z ≤ℤ most)
signed_ok least most z None e = cc
signed_ok least most z (Some y) e =
    elim (cases_Bool (le_z least y && le_z y most)) [
      | inl is ↦
          let f : ◌≡◌ {A = Result ℤ ReadRefusal} (Ok y) (Ok z) = sym (cond-true _ _ _ is) ∙ e in
          let g : y ≡ z = cc in
          let b = and_parts _ _ is in
          (ap (λ x. Some x) g, subst (λ x. least ≤ℤ x) g (true_leZ least y b.0), subst (λ x. x ≤ℤ most) g (true_leZ y most b.1))
      | inr is ↦ let f : ◌≡◌ {A = Result ℤ ReadRefusal} (Err Range) (Ok z) = sym (cond-false _ _ _ is) ∙ e in cc
    ]

pub signed_only : (least most : ℤ) (cs : List ℕ) (z : ℤ) → signed_reading least most cs ≡ Ok z → (cs ≡ field (length cs) z) × (least ≤ℤ z) × (z ≤ℤ most)
unfolding signed_reading
signed_only least most cs z e = let h = signed_ok least most z (number cs) e in (number_writes cs z h.0, h.1, h.2)

-- what a writer answers

pub written_fits : (w : ℕ) (z : ℤ) (buffer : List ℕ) → w ≤ length buffer → length (text z) ≤ w → written w z buffer ≡ (Ok tt, put (field w z) buffer)
unfolding written
written_fits w z buffer room fits = cond-false _ _ _ (le-ltb (length buffer) w room) ∙ cond-false _ _ _ (le-ltb w (length (text z)) fits)

pub written_past : (w : ℕ) (z : ℤ) (buffer : List ℕ) → w ≤ length buffer → w < length (text z) → written w z buffer ≡ (Err refusing.Range, buffer)
unfolding written
written_past w z buffer room past = cond-false _ _ _ (le-ltb (length buffer) w room) ∙ cond-true _ _ _ (lt-ltb w (length (text z)) past)

-- and in columns that are just as wide

pub written_ok : (w : ℕ) (z : ℤ) (part last : List ℕ) (r : Result (Unit {0}) WriteRefusal) → length part ≡ w → (r, last) ≡ written w z part → r ≡ Ok tt → (last ≡ field w z) × (length (text z) ≤ w)
written_ok w z part last r n e f =
    elim (cases_lt w (length (text z))) [
      | inl past ↦ let g : r ≡ Err refusing.Range = ap (λ p. p.0) (e ∙ written_past w z part (omega arith) past) in cc
      | inr fits ↦
          let g : last ≡ put (field w z) part = ap (λ p. p.1) (e ∙ written_fits w z part (omega arith) fits) in
          (g ∙ ap (λ l. field w z ++ l) (drop_all (length (field w z)) part (omega (arith, length_field w z fits))) ∙ append-nil (field w z), fits)
    ]

pub written_err : (w : ℕ) (z : ℤ) (part last : List ℕ) (r : Result (Unit {0}) WriteRefusal) (why : WriteRefusal) → length part ≡ w → (r, last) ≡ written w z part → r ≡ Err why → (why ≡ refusing.Range) × (w < length (text z))
written_err w z part last r why n e f =
    elim (cases_lt w (length (text z))) [
      | inl past ↦ let g : r ≡ Err refusing.Range = ap (λ p. p.0) (e ∙ written_past w z part (omega arith) past) in (cc, past)
      | inr fits ↦ let g : r ≡ Ok tt = ap (λ p. p.0) (e ∙ written_fits w z part (omega arith) fits) in cc
    ]
