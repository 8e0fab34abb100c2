-- When the first line has just so many columns and an LF behind them, by the bytes.
use Rattle.std.proofs.Common.{◌≡◌, ℕ, zero, suc, ◌+◌, ◌<◌, ◌≤◌, true, false, eqb, List, [], ◌∷◌, ◌++◌, length, get_or, take, Bool, Some, sym, refl, ap, ◌∙◌, subst, inl, inr, append_assoc, arith}
use Rattle.std.proofs.lemmas.List.{length-append, length-take-le, get_or_append_left, get_or_at, get_or-take}
use Rattle.std.specs.Prelude.{position}
use Rattle.std.specs.List.{position_or_len}
use Rattle.std.specs.Option.{option_eq}
use Rattle.std.proofs.lemmas.List.Sums.{position_or_len_is, fails_before_first, passes_at_first}
use Rattle.std.proofs.lemmas.Bool.{cases_eq, cases_lt, lt-ltb, le-ltb, cases_Bool, cond-true, cond-false, eq-eqb, ne_eqb, eqb-true, and_from, and_parts, both_ways}
use Rattle.play.specs.Lines.{LF, Line, in_front, lines_of}
use Rattle.play.specs.Play.{first_whole}
use Rattle.play.proofs.Lines.{Unbroken, lines_text, end_text, text_of_lines, first_ends}

-- no column of the first line is LF
abbrev FirstClear : List Line → Type 0
FirstClear [] = Unit {0}
FirstClear (l ∷ ls) = Unbroken (length l.columns) l.columns

longer : (b : ℕ) (cs : List ℕ) → (b ≡ LF → ⊥) → Unbroken (length cs) cs → Unbroken (length (b ∷ cs)) (b ∷ cs)
longer b cs h u zero p e = h e
longer b cs h u (suc k) p e = u k (omega arith) e

clear_in_front : (b : ℕ) (ls : List Line) → (b ≡ LF → ⊥) → FirstClear ls → FirstClear (in_front b ls)
clear_in_front b [] h u = longer b [] h (λ k p e. omega arith)
clear_in_front b (l ∷ ls) h u = longer b l.columns h u

pub first_clear : (bs : List ℕ) → FirstClear (lines_of bs)
first_clear [] = tt
first_clear (b ∷ bs) =
    elim (cases_eq b LF) [
      | inl e ↦ subst FirstClear (sym (cond-true (eqb b LF) _ _ (eq-eqb b LF e))) (λ k p q. omega arith)
      | inr e ↦ subst FirstClear (sym (cond-false (eqb b LF) _ _ (ne_eqb b LF e))) (clear_in_front b (lines_of bs) e (first_clear bs))
    ]

-- the bytes of a text whose first line is whole
pub record WholeShape (w : ℕ) (bs : List ℕ) : Type 0 where
  pub room : w < length bs
  pub ends : get_or bs w 0 ≡ LF
  pub clear : Unbroken w bs

shape : (w : ℕ) (bs cs rest : List ℕ) → length cs ≡ w → Unbroken (length cs) cs → bs ≡ cs ++ (LF ∷ rest) → WholeShape w bs
shape w bs cs rest n u e =
    record {
      room = omega (arith, ap length e, length-append cs (LF ∷ rest));
      ends = ap (λ x. get_or x w 0) e ∙ get_or_at cs LF rest 0 w n;
      clear = λ k p q. u k (omega arith) (sym (get_or_append_left cs (LF ∷ rest) 0 k (omega arith)) ∙ sym (ap (λ x. get_or x k 0) e) ∙ q);
    }

pub whole_shape : (w : ℕ) (bs : List ℕ) → first_whole w (lines_of bs) ≡ true → WholeShape w bs
whole_shape w bs h = go (lines_of bs) h (first_clear bs) (text_of_lines bs) where
  go : (ls : List Line) → first_whole w ls ≡ true → FirstClear ls → lines_text ls ≡ bs → WholeShape w bs
  go [] h u e = absurd (both_ways false refl h)
  go (l ∷ ls) h u e =
      let p = and_parts (eqb (length l.columns) w) l.ended h in
      shape w bs l.columns (lines_text ls) (eqb-true (length l.columns) w p.0) u
      (sym e ∙ ap (λ b. (l.columns ++ end_text b) ++ lines_text ls) p.1 ∙ append_assoc l.columns (LF ∷ []) (lines_text ls))

pub shape_whole : (w : ℕ) (bs : List ℕ) → WholeShape w bs → first_whole w (lines_of bs) ≡ true
shape_whole w bs s =
    ap (first_whole w) (first_ends w bs s.room s.clear s.ends)
    ∙ and_from (eqb (length (take w bs)) w) true (eq-eqb (length (take w bs)) w (length-take-le w bs (let h = s.room in omega arith))) refl

pub not_whole : (w : ℕ) (bs : List ℕ) → (WholeShape w bs → ⊥) → first_whole w (lines_of bs) ≡ false
not_whole w bs h = elim (cases_Bool (first_whole w (lines_of bs))) [ inl e ↦ absurd (h (whole_shape w bs e)) | inr e ↦ e ]

-- by the bytes up to the end of a whole line alone
pub whole_in_front : (w : ℕ) (bs : List ℕ) → w < length bs → first_whole w (lines_of (take (w + 1) bs)) ≡ first_whole w (lines_of bs)
whole_in_front w bs room =
    let front : List ℕ = take (w + 1) bs in
    let same : (k : ℕ) → k ≤ w → get_or front k 0 ≡ get_or bs k 0 = λ k h. get_or-take (w + 1) bs k 0 (omega arith) in
    elim (cases_Bool (first_whole w (lines_of bs))) [
      | inl e ↦
          let s = whole_shape w bs e in
          shape_whole w front (record { room = omega (arith, length-take-le (w + 1) bs (omega arith)); ends = same w (omega arith) ∙ s.ends; clear = λ k p q. s.clear k p (sym (same k (omega arith)) ∙ q) }) ∙ sym e
      | inr e ↦
          not_whole w front (λ s. both_ways (first_whole w (lines_of bs)) e (shape_whole w bs (record { room = room; ends = sym (same w (omega arith)) ∙ s.ends; clear = λ k p q. s.clear k p (same k (omega arith) ∙ q) }))) ∙ sym e
    ]

-- by the place of the first LF
pub whole_by_end : (w : ℕ) (bs : List ℕ) → option_eq eqb (position (λ b. eqb b LF) bs) (Some w) ≡ first_whole w (lines_of bs)
whole_by_end w bs =
    let p : ℕ → Bool = λ b. eqb b LF in
    let i = position_or_len p bs in
    let there : WholeShape w bs → i ≡ w = λ s. position_or_len_is p bs w 0 (omega (arith, s.room)) (λ k h. ne_eqb (get_or bs k 0) LF (s.clear k h)) (λ h. eq-eqb (get_or bs w 0) LF s.ends) in
    elim (cases_lt i (length bs)) [
      | inl some ↦
          ap (λ o. option_eq eqb o (Some w)) (cond-true _ _ _ (lt-ltb i (length bs) some))
          ∙ elim (cases_eq i w) [
            | inl e ↦ eq-eqb i w e ∙ sym (shape_whole w bs (record {
              room = omega arith;
              ends = ap (λ k. get_or bs k 0) (sym e) ∙ eqb-true (get_or bs i 0) LF (passes_at_first p bs 0 some);
              clear = λ k h here. never (sym (fails_before_first p bs k 0 (omega arith)) ∙ eq-eqb (get_or bs k 0) LF here);
            }))
            | inr ne ↦ ne_eqb i w ne ∙ sym (not_whole w bs (λ s. ne (there s)))
          ]
      | inr none ↦ ap (λ o. option_eq eqb o (Some w)) (cond-false _ _ _ (le-ltb i (length bs) none)) ∙ sym (not_whole w bs (λ s. let e = there s in let r = s.room in omega arith))
    ] where
      never : false ≡ true → ⊥
      never e = cc
