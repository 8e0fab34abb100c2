-- What the pass has found says how the columns before it look, so it finds nothing but what they write.
use Rattle.std.proofs.Common.{◌≡◌, ℕ, suc, ◌+◌, ◌-◌, ◌<◌, ◌≤◌, true, eqb, List, [], ◌∷◌, ◌++◌, length, replicate, ℤ, pos, negsuc, Some, sym, refl, ap, ◌∙◌, subst, append_assoc, append-nil, arith}
use Rattle.std.proofs.lemmas.List.{length-append, length-replicate, replicate_more}
use Rattle.std.proofs.lemmas.Bool.{and_parts, cond_both, eqb-true, eqb-false, leb-true}
use Rattle.columns.specs.Number.{text, field}
use Rattle.columns.specs.Scanning.{digit_from}
use Rattle.columns.proofs.Scan.{Scan, blanks, minus, so_far, spoilt, step, scan, found}
use Rattle.columns.proofs.Texts.{digits_one, push, text_push_pos, text_push_neg}

abbrev Shape : Scan → List ℕ → Type 0
Shape blanks p = (k : ℕ) × (p ≡ replicate k 32)
Shape minus p = (k : ℕ) × (p ≡ replicate k 32 ++ (45 ∷ []))
Shape (so_far z) p = (k : ℕ) × (p ≡ replicate k 32 ++ text z)
Shape spoilt p = Unit {0}

-- a column behind what stands there
behind : (p x y : List ℕ) (k c : ℕ) → p ≡ replicate k 32 ++ x → x ++ (c ∷ []) ≡ y → p ++ (c ∷ []) ≡ replicate k 32 ++ y
behind p x y k c e f = ap (λ l. l ++ (c ∷ [])) e ∙ append_assoc (replicate k 32) x (c ∷ []) ∙ ap (λ l. replicate k 32 ++ l) f

is_digit : (low c : ℕ) → digit_from low c ≡ true → (low ≤ c) × (c ≤ 57)
is_digit low c e = let b = and_parts _ _ e in (leb-true _ _ b.0, leb-true _ _ b.1)

text_one_pos : (c : ℕ) → 48 ≤ c → c ≤ 57 → (c ∷ []) ≡ text (pos (c - 48))
unfolding text
text_one_pos c lo hi = let e : c ≡ 48 + (c - 48) = omega arith in ap (λ x. x ∷ []) e ∙ sym (digits_one (c - 48) (omega arith))

text_one_neg : (c : ℕ) → 49 ≤ c → c ≤ 57 → 45 ∷ c ∷ [] ≡ text (negsuc (c - 49))
unfolding text
text_one_neg c lo hi =
    let e : c ≡ 48 + suc (c - 49) = omega arith in
    ap (λ x. 45 ∷ x ∷ []) e ∙ ap (λ l. 45 ∷ l) (sym (digits_one (suc (c - 49)) (omega arith)))

text_more_pos : (n c : ℕ) → 0 < n → 48 ≤ c → c ≤ 57 → text (pos n) ++ (c ∷ []) ≡ text (push (pos n) (c - 48))
text_more_pos n c h lo hi =
    let e : c ≡ 48 + (c - 48) = omega arith in ap (λ x. text (pos n) ++ (x ∷ [])) e ∙ sym (text_push_pos n (c - 48) h (omega arith))

text_more_neg : (n c : ℕ) → 48 ≤ c → c ≤ 57 → text (negsuc n) ++ (c ∷ []) ≡ text (push (negsuc n) (c - 48))
text_more_neg n c lo hi =
    let e : c ≡ 48 + (c - 48) = omega arith in ap (λ x. text (negsuc n) ++ (x ∷ [])) e ∙ sym (text_push_neg n (c - 48) (omega arith))

shape_step : (s : Scan) (p : List ℕ) (c : ℕ) → Shape s p → Shape (step s c) (p ++ (c ∷ []))
shape_step blanks p c (k, e) =
    cond_both (eqb c 32) _ _ (λ t. Shape t (p ++ (c ∷ [])))
    (λ b. (k + 1, ap (λ l. l ++ (c ∷ [])) e ∙ ap (λ x. replicate k 32 ++ (x ∷ [])) (eqb-true c 32 b) ∙ replicate_more k 32))
    (λ _. cond_both (eqb c 45) _ _ (λ t. Shape t (p ++ (c ∷ [])))
    (λ b. (k, ap (λ l. l ++ (c ∷ [])) e ∙ ap (λ x. replicate k 32 ++ (x ∷ [])) (eqb-true c 45 b)))
    (λ _. cond_both (digit_from 48 c) _ _ (λ t. Shape t (p ++ (c ∷ [])))
    (λ b. let d = is_digit 48 c b in (k, ap (λ l. l ++ (c ∷ [])) e ∙ ap (λ l. replicate k 32 ++ l) (text_one_pos c d.0 d.1)))
    (λ _. tt)))
shape_step minus p c (k, e) =
    cond_both (digit_from 49 c) _ _ (λ t. Shape t (p ++ (c ∷ [])))
    (λ b. let d = is_digit 49 c b in (k, behind p (45 ∷ []) _ k c e (text_one_neg c d.0 d.1)))
    (λ _. tt)
shape_step (so_far (pos n)) p c (k, e) =
    cond_both (digit_from 48 c) _ _ (λ t. Shape t (p ++ (c ∷ [])))
    (λ b. let d = is_digit 48 c b in cond_both (eqb n 0) _ _ (λ t. Shape t (p ++ (c ∷ []))) (λ _. tt)
    (λ z. (k, behind p (text (pos n)) _ k c e (text_more_pos n c (let ne = eqb-false n 0 z in omega arith) d.0 d.1))))
    (λ _. tt)
shape_step (so_far (negsuc n)) p c (k, e) =
    cond_both (digit_from 48 c) _ _ (λ t. Shape t (p ++ (c ∷ [])))
    (λ b. let d = is_digit 48 c b in (k, behind p (text (negsuc n)) _ k c e (text_more_neg n c d.0 d.1)))
    (λ _. tt)
shape_step spoilt p c h = tt

shape_scan : (s : Scan) (p cs : List ℕ) → Shape s p → Shape (scan s cs) (p ++ cs)
shape_scan s p [] h = subst (Shape s) (sym (append-nil p)) h
shape_scan s p (c ∷ cs) h = subst (Shape (scan s (c ∷ cs))) (append_assoc p (c ∷ []) cs) (shape_scan (step s c) (p ++ (c ∷ [])) cs (shape_step s p c h))

-- columns that end as a number's text are its field
field_of : (cs : List ℕ) (z : ℤ) (k : ℕ) → cs ≡ replicate k 32 ++ text z → cs ≡ field (length cs) z
unfolding field
field_of cs z k e =
    let n : length cs - length (text z) ≡ k = omega (arith, ap length e ∙ length-append (replicate k 32) (text z), length-replicate {A = ℕ} k 32) in
    e ∙ ap (λ m. replicate m 32 ++ text z) (sym n)

by_end : (s : Scan) (cs : List ℕ) (z : ℤ) → Shape s cs → found s ≡ Some z → cs ≡ field (length cs) z
by_end blanks cs z h e = cc
by_end minus cs z h e = cc
by_end (so_far y) cs z (k, h) e = let x : y ≡ z = cc in field_of cs z k (h ∙ ap (λ t. replicate k 32 ++ text t) x)
by_end spoilt cs z h e = cc

pub scan_exact : (cs : List ℕ) (z : ℤ) → found (scan blanks cs) ≡ Some z → cs ≡ field (length cs) z
scan_exact cs z e = by_end (scan blanks cs) cs z (shape_scan blanks [] cs (0, refl)) e
