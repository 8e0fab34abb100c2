-- How a text falls into lines.
use Rattle.std.proofs.Common.{◌≡◌, ℕ, zero, suc, ◌<◌, Bool, true, false, eqb, List, [], ◌∷◌, ◌++◌, length, get_or, take, drop, sym, refl, ap, ◌∙◌, subst, arith}
use Rattle.std.proofs.lemmas.Bool.{cond-true, cond-false, cond_both, eq-eqb, ne_eqb, eqb-true}
use Rattle.play.specs.Lines.{LF, Line, in_front, lines_of}

-- the bytes of a line, with its LF where it has one
abbrev pub end_text : Bool → List ℕ
end_text true = LF ∷ []
end_text false = []

abbrev pub line_text : Line → List ℕ
line_text l = l.columns ++ end_text l.ended

abbrev pub lines_text : List Line → List ℕ
lines_text [] = []
lines_text (l ∷ ls) = line_text l ++ lines_text ls

text_in_front : (b : ℕ) (ls : List Line) → lines_text (in_front b ls) ≡ b ∷ lines_text ls
text_in_front b [] = refl
text_in_front b (l ∷ ls) = refl

-- the lines of a text are its bytes again
pub text_of_lines : (bs : List ℕ) → lines_text (lines_of bs) ≡ bs
text_of_lines [] = refl
text_of_lines (b ∷ bs) =
    cond_both (eqb b LF) (record { columns = []; ended = true } ∷ lines_of bs) (in_front b (lines_of bs)) (λ ls. lines_text ls ≡ b ∷ bs)
    (λ e. ap (λ c. c ∷ lines_text (lines_of bs)) (sym (eqb-true b LF e)) ∙ ap (λ t. b ∷ t) (text_of_lines bs))
    (λ e. text_in_front b (lines_of bs) ∙ ap (λ t. b ∷ t) (text_of_lines bs))

-- none of the first n bytes is LF
abbrev pub Unbroken : ℕ → List ℕ → Type 0
Unbroken n bs = (k : ℕ) → k < n → get_or bs k 0 ≡ LF → ⊥

unbroken_rest : (n b : ℕ) (bs : List ℕ) → Unbroken (suc n) (b ∷ bs) → Unbroken n bs
unbroken_rest n b bs u k h = u (suc k) (omega arith)

not_ended : (n b : ℕ) (bs : List ℕ) → Unbroken (suc n) (b ∷ bs) → lines_of (b ∷ bs) ≡ in_front b (lines_of bs)
not_ended n b bs u = cond-false (eqb b LF) _ _ (ne_eqb b LF (u 0 (omega arith)))

-- the first LF ends the first line
pub first_ends : (n : ℕ) (bs : List ℕ) → n < length bs → Unbroken n bs → get_or bs n 0 ≡ LF → lines_of bs ≡ record { columns = take n bs; ended = true } ∷ lines_of (drop (suc n) bs)
first_ends n [] h u e = absurd (omega arith)
first_ends zero (b ∷ bs) h u e = cond-true (eqb b LF) _ _ (eq-eqb b LF e)
first_ends (suc n) (b ∷ bs) h u e = not_ended n b bs u ∙ ap (in_front b) (first_ends n bs (omega arith) (unbroken_rest n b bs u) e)

-- a text with no LF is one line
pub first_open : (bs : List ℕ) → 0 < length bs → Unbroken (length bs) bs → lines_of bs ≡ record { columns = bs; ended = false } ∷ []
first_open [] h u = absurd (omega arith)
first_open (b ∷ []) h u = not_ended 0 b [] u
first_open (b ∷ c ∷ bs) h u = not_ended (length (c ∷ bs)) b (c ∷ bs) u ∙ ap (in_front b) (first_open (c ∷ bs) (omega arith) (unbroken_rest (length (c ∷ bs)) b (c ∷ bs) u))

-- P of the first line
abbrev pub Leads : (Line → Type 0) → List Line → Type 0
Leads P [] = ⊥
Leads P (l ∷ ls) = P l

begins : (b : ℕ) (ls : List Line) → Leads (λ l. 0 < length l.columns) (in_front b ls)
begins b [] = omega arith
begins b (l ∷ ls) = omega arith

grows : (n b : ℕ) (ls : List Line) → Leads (λ l. n < length l.columns) ls → Leads (λ l. suc n < length l.columns) (in_front b ls)
grows n b [] h = elim h [ ]
grows n b (l ∷ ls) h = omega arith

-- bytes with no LF among them are all in the first line
pub first_long : (n : ℕ) (bs : List ℕ) → n < length bs → Unbroken (suc n) bs → Leads (λ l. n < length l.columns) (lines_of bs)
first_long n [] h u = absurd (omega arith)
first_long zero (b ∷ bs) h u = subst (Leads (λ l. 0 < length l.columns)) (sym (not_ended 0 b bs u)) (begins b (lines_of bs))
first_long (suc n) (b ∷ bs) h u =
    subst (Leads (λ l. suc n < length l.columns)) (sym (not_ended (suc n) b bs u)) (grows n b (lines_of bs) (first_long n bs (omega arith) (unbroken_rest (suc n) b bs u)))
