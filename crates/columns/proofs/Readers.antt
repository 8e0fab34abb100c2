-- The reader's answers: the pass as the code makes it, and the answer's tie to the columns.
use Rattle.std.proofs.Common.{◌≡◌, ℕ, ◌+◌, ◌-◌, ◌*◌, ◌^◌, ◌<◌, ◌≤◌, Bool, true, false, cond, ◌&&◌, eqb, List, [], ◌∷◌, length, fold, ℤ, pos, negsuc, ◌≤ℤ◌, IfOk, Some, None, Ok, Err, Option, Result, sym, refl, ap, ◌∙◌, subst, inl, inr, ⊎_elim, arith, suc, neg_ℤ, leb}
use lib.Signed.{le_z}
use Rattle.std.specs.Prelude.{MatchOption, unsigned_abs, nat_lt}
use Rattle.std.proofs.lemmas.Bool.{cases_lt, cond_both, lt-ltb, le-ltb, ne_eqb, cond-true, cond-false, and_cases, and_from, and_parts, and_right, and_left, lt-leb, cases_Bool, leb-true}
use Rattle.std.specs.Option.{ok_or, option_map}
use Rattle.columns.specs.Number.{number, Writes}
use Rattle.columns.specs.Reading.{ReadsSigned, signed_of, signed_reading}
use Rattle.columns.specs.declared.read_refusal.ReadRefusal.{ReadRefusal}
use Rattle.columns.specs.declared.read_refusal.ReadRefusal.TheVariants.{Form, Range}
use Rattle.columns.specs.NumberTypes.{answer_of, NumberLaws}
use Rattle.columns.specs.Scanning.{long, held, digit_from, seen_after, seen_number, sized, signed_within}
use Rattle.columns.specs.declared.scanning.Seen.{Seen}
use Rattle.columns.specs.declared.scanning.Seen.TheVariants.{Blanks, Minus, Number, Long, Nothing}
use Rattle.columns.specs.declared.scanning.Sign.{Sign}
use Rattle.columns.specs.declared.scanning.Sign.TheVariants.{Positive, Negative}
use Rattle.columns.proofs.Laws.{number_writes, number_of_field, number_from_writes, writes_from_number, true_leZ, false_leZ, leZ_true, ltZ_false}
use Rattle.columns.proofs.Scan.{Scan, blanks, minus, so_far, spoilt, step, scan, found, scan_field}
use Rattle.columns.proofs.Shapes.{scan_exact}
use Rattle.columns.proofs.Texts.{push}

-- a magnitude, if 64 bits hold it
abbrev pub kept : ℕ → Option ℕ
kept n = cond (nat_lt n long) (Some n) None

-- the pass of any size, as the code holds it
abbrev pub shown : Scan → Seen
shown blanks = Blanks
shown minus = Minus
shown (so_far (pos n)) = sized Positive (kept n)
shown (so_far (negsuc n)) = sized Negative (kept (n + 1))
shown spoilt = Nothing

pub number_found : (cs : List ℕ) → number cs ≡ found (scan blanks cs)
number_found cs = go (number cs) (found (scan blanks cs)) refl refl where
  go : (a b : Option ℤ) → number cs ≡ a → found (scan blanks cs) ≡ b → a ≡ b
  go None None e f = refl
  go (Some y) (Some z) e f =
      let p : found (scan blanks cs) ≡ Some y = ap (λ l. found (scan blanks l)) (number_writes cs y e) ∙ ap found (scan_field (length cs) y) in
      cc
  go None (Some z) e f =
      let p : number cs ≡ Some z = ap number (scan_exact cs z f) ∙ number_of_field (length cs) z in
      cc
  go (Some y) None e f =
      let p : found (scan blanks cs) ≡ Some y = ap (λ l. found (scan blanks l)) (number_writes cs y e) ∙ ap found (scan_field (length cs) y) in
      cc

-- a number that 64 bits hold, and one that they don't

short_sized : (sign : Sign) (n : ℕ) → n < 2 ^ 64 → sized sign (kept n) ≡ Number sign n
short_sized sign n h = ap (sized sign) (cond-true _ _ _ (lt-ltb n long h))

long_sized : (sign : Sign) (n : ℕ) → 2 ^ 64 ≤ n → sized sign (kept n) ≡ Long
long_sized sign n h = ap (sized sign) (cond-false _ _ _ (le-ltb n long h))

shown_cond : (b : Bool) (s t : Scan) → cond b (shown s) (shown t) ≡ shown (cond b s t)
shown_cond true s t = refl
shown_cond false s t = refl

by_digit : (low c : ℕ) (t : Seen) (s : Scan) → (low ≤ c → c ≤ 57 → t ≡ shown s) → cond (digit_from low c) t Nothing ≡ shown (cond (digit_from low c) s spoilt)
by_digit low c t s h =
    elim (cases_Bool (digit_from low c)) [
      | inl is ↦ let b = and_parts (leb low c) (leb c 57) is in cond-true _ _ _ is ∙ h (leb-true low c b.0) (leb-true c 57 b.1) ∙ ap shown (sym (cond-true _ _ _ is))
      | inr is ↦ cond-false _ _ _ is ∙ ap shown (sym (cond-false _ _ _ is))
    ]

shown_step : (s : Scan) (c : ℕ) → seen_after (shown s) c ≡ shown (step s c)
shown_step blanks c =
    ap (λ t. cond (eqb c 32) Blanks (cond (eqb c 45) Minus t)) (by_digit 48 c _ _ (λ lo hi. sym (short_sized Positive (c - 48) (omega arith))))
    ∙ ap (λ t. cond (eqb c 32) Blanks t) (shown_cond (eqb c 45) minus _) ∙ shown_cond (eqb c 32) blanks _
shown_step minus c =
    by_digit 49 c _ _ (λ lo hi. let e : c - 48 ≡ c - 49 + 1 = omega arith in ap (Number Negative) e ∙ sym (short_sized Negative (c - 49 + 1) (omega arith)))
shown_step (so_far (pos n)) c =
    elim (cases_lt n (2 ^ 64)) [
      | inl small ↦ ap (λ t. seen_after t c) (short_sized Positive n small) ∙ by_digit 48 c _ _ (λ lo hi. shown_cond (eqb n 0) spoilt (so_far (push (pos n) (c - 48))))
      | inr large ↦
          ap (λ t. seen_after t c) (long_sized Positive n large)
          ∙ by_digit 48 c _ _ (λ lo hi. sym (long_sized Positive (n * 10 + (c - 48)) (omega arith)) ∙ ap shown (sym (cond-false _ _ _ (ne_eqb n 0 (λ e. omega arith)))))
    ]
shown_step (so_far (negsuc n)) c =
    elim (cases_lt (n + 1) (2 ^ 64)) [
      | inl small ↦ ap (λ t. seen_after t c) (short_sized Negative (n + 1) small) ∙ by_digit 48 c _ _ (λ lo hi. let e : (n + 1) * 10 + (c - 48) ≡ n * 10 + 9 + (c - 48) + 1 = omega arith in cond-false _ _ _ (ne_eqb (n + 1) 0 (λ z. omega arith)) ∙ ap (λ m. sized Negative (kept m)) e)
      | inr large ↦ ap (λ t. seen_after t c) (long_sized Negative (n + 1) large) ∙ by_digit 48 c _ _ (λ lo hi. sym (long_sized Negative (n * 10 + 9 + (c - 48) + 1) (omega arith)))
    ]
shown_step spoilt c = refl

shown_fold : (s : Scan) (cs : List ℕ) → fold seen_after (shown s) cs ≡ shown (scan s cs)
shown_fold s [] = refl
shown_fold s (c ∷ cs) = ap (λ t. fold seen_after t cs) (shown_step s c) ∙ shown_fold (step s c) cs

held_small : (z : ℤ) → unsigned_abs z < 2 ^ 64 → held z ≡ z
held_small z h = cond-true _ _ _ (lt-ltb (unsigned_abs z) long h)

held_long : (z : ℤ) → 2 ^ 64 ≤ unsigned_abs z → held z ≡ pos long
held_long z h = cond-false _ _ _ (le-ltb (unsigned_abs z) long h)

found_shown : (s : Scan) → seen_number (shown s) ≡ option_map held (found s)
found_shown blanks = refl
found_shown minus = refl
found_shown (so_far (pos n)) =
    elim (cases_lt n (2 ^ 64)) [
      | inl small ↦ ap seen_number (short_sized Positive n small) ∙ ap Some (sym (held_small (pos n) small))
      | inr large ↦ ap seen_number (long_sized Positive n large) ∙ ap Some (sym (held_long (pos n) large))
    ]
found_shown (so_far (negsuc n)) =
    let e : n + 1 ≡ suc n = omega arith in
    elim (cases_lt (n + 1) (2 ^ 64)) [
      | inl small ↦ ap seen_number (short_sized Negative (n + 1) small) ∙ ap (λ m. Some (neg_ℤ (pos m))) e ∙ ap Some (sym (held_small (negsuc n) (omega arith)))
      | inr large ↦ ap seen_number (long_sized Negative (n + 1) large) ∙ ap Some (sym (held_long (negsuc n) (omega arith)))
    ]
found_shown spoilt = refl

-- the pass over all columns
pub shown_all : (cs : List ℕ) → seen_number (fold seen_after Blanks cs) ≡ option_map held (number cs)
shown_all cs = ap seen_number (shown_fold blanks cs) ∙ found_shown (scan blanks cs) ∙ ap (option_map held) (sym (number_found cs))

-- the answers

-- no long number is between two short ones
outside : (least most z : ℤ) → unsigned_abs least < 2 ^ 64 → unsigned_abs most < 2 ^ 64 → 2 ^ 64 ≤ unsigned_abs z → (le_z least z && le_z z most) ≡ false
outside least (pos m) (pos n) f g h = and_right (le_z least (pos n)) _ (lt-leb n m (omega arith))
outside least (negsuc m) (pos n) f g h = and_right (le_z least (pos n)) false refl
outside (pos l) most (negsuc n) f g h = refl
outside (negsuc l) most (negsuc n) f g h = and_left _ (le_z (negsuc n) most) (lt-leb n l (omega arith))

-- a number past 64 bits is out of range, as it is held too
within_held : (least most z : ℤ) → unsigned_abs least < 2 ^ 64 → unsigned_abs most < 2 ^ 64 → signed_within least most (Some (held z)) ≡ signed_of least most (Some z)
within_held least most z l m =
    elim (cases_lt (unsigned_abs z) (2 ^ 64)) [
      | inl small ↦ ap (λ y. signed_within least most (Some y)) (held_small z small)
      | inr large ↦ cond-false _ _ _ (outside least most (held z) l m (omega (arith, ap unsigned_abs (held_long z large)))) ∙ sym (cond-false _ _ _ (outside least most z l m large))
    ]

pub form_told : (least most : ℤ) (o : Option ℤ) (e : ReadRefusal) → ok_or (option_map held o) Form ≡ Err e → Err e ≡ signed_of least most o
form_told least most None e h = sym h
form_told least most (Some z) e h = cc

pub found_told : (least most f : ℤ) (o : Option ℤ) → unsigned_abs least < 2 ^ 64 → unsigned_abs most < 2 ^ 64 → ok_or {E = ReadRefusal} (option_map held o) Form ≡ Ok f → signed_within least most (Some f) ≡ signed_of least most o
found_told least most f None l m h = cc
found_told least most f (Some z) l m h = let same : f ≡ held z = cc in ap (λ y. signed_within least most (Some y)) same ∙ within_held least most z l m

-- an answer is tied to the columns, and no other is

signed_tie : (least most : ℤ) (cs : List ℕ) (o : Option ℤ) → number cs ≡ o → ReadsSigned least most cs (signed_of least most o)
unfolding ReadsSigned Writes
signed_tie least most cs None e = λ z h. let f : number cs ≡ Some z = number_from_writes cs z h in cc
signed_tie least most cs (Some z) e =
    let w = number_writes cs z e in
    cond_both (le_z least z && le_z z most) _ _ (ReadsSigned least most cs)
    (λ t. let b = and_parts (le_z least z) (le_z z most) t in (w, true_leZ least z b.0, true_leZ z most b.1))
    (λ t. (z, w, ⊎_elim (λ x. inl (false_leZ least z x)) (λ x. inr (false_leZ z most x)) (and_cases (le_z least z) (le_z z most) t)))

signed_once : (least most : ℤ) (cs : List ℕ) (s : Result ℤ ReadRefusal) → ReadsSigned least most cs s → s ≡ signed_of least most (number cs)
unfolding ReadsSigned
signed_once least most cs (Ok z) h =
    sym (cond-true _ _ _ (and_from _ _ (leZ_true least z h.1) (leZ_true z most h.2))) ∙ ap (signed_of least most) (sym (number_from_writes cs z h.0))
signed_once least most cs (Err Range) (z, h, o) =
    sym (cond-false _ _ _ (⊎_elim (λ x. and_left (le_z least z) (le_z z most) (ltZ_false least z x)) (λ x. and_right (le_z least z) (le_z z most) (ltZ_false z most x)) o))
    ∙ ap (signed_of least most) (sym (number_from_writes cs z h))
signed_once least most cs (Err Form) h = go (number cs) refl where
  go : (o : Option ℤ) → number cs ≡ o → Err Form ≡ signed_of least most (number cs)
  go None e = ap (signed_of least most) (sym e)
  go (Some z) e = absurd (h z (writes_from_number cs z e))

pub signed_relates : (least most : ℤ) (cs : List ℕ) (r : Result ℤ ReadRefusal) → r ≡ signed_of least most (number cs) → ReadsSigned least most cs r
signed_relates least most cs r e = subst (ReadsSigned least most cs) (sym e) (signed_tie least most cs (number cs) refl)

pub signed_alone : (least most : ℤ) (cs : List ℕ) (r : Result ℤ ReadRefusal) → r ≡ signed_of least most (number cs) → (s : Result ℤ ReadRefusal) → ReadsSigned least most cs s → s ≡ r
signed_alone least most cs r e s h = signed_once least most cs s h ∙ sym e

pub signed_bound : (least most : ℤ) (cs : List ℕ) (r : Result ℤ ReadRefusal) → ReadsSigned least most cs r → IfOk r (λ z. (least ≤ℤ z) × (z ≤ℤ most))
unfolding ReadsSigned
signed_bound least most cs (Ok z) h = (h.1, h.2)
signed_bound least most cs (Err e) h = tt

-- the same at each number type

module _ {N : Type 0} (value : N → ℤ) (in_range : ℤ → Type 0) (at_most : N → N → Type 0) (reading : N → N → List ℕ → Result N ReadRefusal) (reads : N → N → List ℕ → Result N ReadRefusal → Type 0) (laws : NumberLaws value in_range at_most reading reads) (least most : N) where
  answer_once : (r s : Result N ReadRefusal) → answer_of value r ≡ answer_of value s → r ≡ s
  answer_once (Ok m) (Ok n) e = let same : value m ≡ value n = cc in ap Ok (laws.once m n same)
  answer_once (Ok m) (Err b) e = cc
  answer_once (Err a) (Ok n) e = cc
  answer_once (Err a) (Err b) e = let same : a ≡ b = cc in ap Err same

  pub read_value : (cs : List ℕ) (r : Result N ReadRefusal) → answer_of value r ≡ signed_of (value least) (value most) (number cs) → r ≡ reading least most cs
  unfolding signed_reading
  read_value cs r e = answer_once r (reading least most cs) (e ∙ sym (laws.read_as least most cs))

  pub read_relates : (cs : List ℕ) (r : Result N ReadRefusal) → answer_of value r ≡ signed_of (value least) (value most) (number cs) → reads least most cs r
  read_relates cs r e = laws.tied least most cs r (signed_relates (value least) (value most) cs (answer_of value r) e)

  pub read_alone : (cs : List ℕ) (r : Result N ReadRefusal) → answer_of value r ≡ signed_of (value least) (value most) (number cs) → (s : Result N ReadRefusal) → reads least most cs s → s ≡ r
  read_alone cs r e s h = answer_once s r (signed_alone (value least) (value most) cs (answer_of value r) e (answer_of value s) (laws.untied least most cs s h))

  pub read_bound : (cs : List ℕ) (r : Result N ReadRefusal) → answer_of value r ≡ signed_of (value least) (value most) (number cs) → IfOk r (λ n. at_most least n × at_most n most)
  read_bound cs (Ok n) e = let b = signed_bound (value least) (value most) cs (Ok (value n)) (signed_relates (value least) (value most) cs (Ok (value n)) e) in (laws.ordered least n b.0, laws.ordered n most b.1)
  read_bound cs (Err a) e = tt

  -- a number that is not past its bounds, and what the type has of it
  pub within_value : (z : ℤ) (o : Option N) → in_range (value least) → in_range (value most) → value least ≤ℤ z → z ≤ℤ value most → MatchOption o (in_range z → ⊥) (λ n. value n ≡ z)
      → answer_of value (ok_or o Range) ≡ signed_within (value least) (value most) (Some z)
  within_value z None f g h k no' = absurd (no' (laws.between (value least) (value most) z f g h k))
  within_value z (Some n) f g h k e =
      ap Ok e ∙ sym (cond-true _ _ _ (and_from _ _ (leZ_true (value least) z h) (leZ_true z (value most) k)))
