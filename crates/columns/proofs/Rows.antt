-- A row's columns: filled by its numbers, framed by a mark and an LF, refused or done.
use Rattle.std.proofs.Common.{◌≡◌, ℕ, suc, ◌+◌, ◌<◌, ◌≤◌, true, false, ◌&&◌, ltb, leb, List, [], ◌∷◌, ◌++◌, length, get_or, take, drop, set, pos, Ok, Err, Result, sym, refl, ap, ◌∙◌, inl, inr, append_assoc, append-nil, arith}
use borrow.Rule.Slice.PartMut.{put_mid}
use Rattle.std.proofs.lemmas.List.{length-append, drop_all, drop_more, set_at, at_drop_more}
use Rattle.std.proofs.lemmas.Slice.{take-put_mid}
use Rattle.std.proofs.lemmas.Bool.{cases_Bool, cond-true, cond-false, and_parts, le-ltb, leb-true}
use Rattle.columns.specs.declared.write_refusal.WriteRefusal.{WriteRefusal}
use Rattle.columns.specs.declared.write_refusal.WriteRefusal.TheVariants.{Range}
use Rattle.columns.specs.declared.row.Field.{Field}
use Rattle.columns.specs.Number.{text, field}
use Rattle.columns.specs.Row.{row_width, row_text, row_fits, row_written}
use Rattle.columns.specs.Writing.{written}
use Rattle.columns.proofs.Laws.{length_field}

abbrev pub no_field : Field
no_field = record { width = 0; number = 0 }

module _ (fs : List Field) (i : ℕ) (h : i < length fs) where
  pub width_more : row_width (drop i fs) ≡ (get_or fs i no_field).width + row_width (drop (i + 1) fs)
  width_more = at_drop_more row_width fs i no_field h

  pub text_more : row_text (drop i fs) ≡ field (get_or fs i no_field).width (pos (get_or fs i no_field).number) ++ row_text (drop (i + 1) fs)
  text_more = at_drop_more row_text fs i no_field h

  pub fits_more : row_fits (drop i fs) ≡ (leb (length (text (pos (get_or fs i no_field).number))) (get_or fs i no_field).width && row_fits (drop (i + 1) fs))
  fits_more = at_drop_more row_fits fs i no_field h

-- a number that fits, written into columns that it fills
pub fills : (w n : ℕ) (columns : List ℕ) (r : Result (Unit {0}) WriteRefusal) (after : List ℕ) → length columns ≡ w → leb (length (text (pos n))) w ≡ true
    → ◌≡◌ {A = Result (Unit {0}) WriteRefusal × List ℕ} (r, after) (written w (pos n) columns) → after ≡ field w (pos n)
unfolding written
fills w n columns r after len fits e =
    let room : length (text (pos n)) ≤ w = leb-true (length (text (pos n))) w fits in
    let done = cond-false (ltb (length columns) w) _ _ (le-ltb (length columns) w (omega arith)) ∙ cond-false (ltb w (length (text (pos n)))) _ _ (le-ltb w (length (text (pos n))) room) in
    ap (λ x. x.1) (e ∙ done)
    ∙ (ap (λ x. field w (pos n) ++ x) (drop_all (length (field w (pos n))) columns (omega (arith, length_field w (pos n) room))) ∙ append-nil (field w (pos n)))

-- a mark in front of columns that were filled, and an LF behind them
pub framed : (mark n k : ℕ) (ys buffer : List ℕ) → length ys ≡ n → k ≡ n → n + 2 ≤ length buffer
    → set (put_mid 1 k (set buffer 0 mark) ys) (n + 1) 10 ≡ (mark ∷ (ys ++ (10 ∷ []))) ++ drop (length (mark ∷ (ys ++ (10 ∷ [])))) buffer
framed mark n k ys [] len e room = absurd (omega arith)
framed mark n k ys (b ∷ bs) len e room =
    let next : n + 1 ≡ suc n = omega arith in
    let some : drop n bs ≡ get_or bs n 0 ∷ drop (n + 1) bs = drop_more bs n 0 (omega arith) in
    let long : length (ys ++ (10 ∷ [])) ≡ n + 1 = length-append ys (10 ∷ []) ∙ omega arith in
    ap (λ m. set (mark ∷ (ys ++ drop m bs)) (n + 1) 10) e
    ∙ ap (λ m. set (mark ∷ (ys ++ drop n bs)) m 10) next
    ∙ ap (λ x. mark ∷ set (ys ++ x) n 10) some
    ∙ ap (λ x. mark ∷ x) (set_at ys (get_or bs n 0) (drop (n + 1) bs) 10 n len)
    ∙ ap (λ x. mark ∷ x) (sym (append_assoc ys (10 ∷ []) (drop (n + 1) bs)))
    ∙ ap (λ m. mark ∷ ((ys ++ (10 ∷ [])) ++ drop m bs)) (sym long)

pub length_row : (fs : List Field) → row_fits fs ≡ true → length (row_text fs) ≡ row_width fs
length_row [] e = refl
length_row (f ∷ fs) e =
    let p = and_parts (leb (length (text (pos f.number))) f.width) (row_fits fs) e in
    length-append (field f.width (pos f.number)) (row_text fs)
    ∙ omega (arith, length_field f.width (pos f.number) (leb-true (length (text (pos f.number))) f.width p.0), length_row fs p.1)

-- what a row's writer says, where there is room for just the row
pub row_refused : (fs : List Field) (part after : List ℕ) (e : WriteRefusal) → length part ≡ row_width fs
    → ◌≡◌ {A = Result (Unit {0}) WriteRefusal × List ℕ} (Err e, after) (row_written fs part) → (e ≡ Range) × (after ≡ part) × (row_fits fs ≡ false)
row_refused fs part after e room said =
    let here = said ∙ cond-false (ltb (length part) (row_width fs)) _ _ (le-ltb (length part) (row_width fs) (omega arith)) in
    elim (cases_Bool (row_fits fs)) [
      | inl fits ↦ let no' = ap (λ x. x.0) (here ∙ cond-true (row_fits fs) _ _ fits) in cc
      | inr wide ↦ let is = here ∙ cond-false (row_fits fs) _ _ wide in let first = ap (λ x. x.0) is in let same : e ≡ Range = cc in (same, ap (λ x. x.1) is, wide)
    ]

pub row_done : (fs : List Field) (part after : List ℕ) (u : Unit {0}) → length part ≡ row_width fs
    → ◌≡◌ {A = Result (Unit {0}) WriteRefusal × List ℕ} (Ok u, after) (row_written fs part) → (after ≡ row_text fs) × (row_fits fs ≡ true)
row_done fs part after u room said =
    let here = said ∙ cond-false (ltb (length part) (row_width fs)) _ _ (le-ltb (length part) (row_width fs) (omega arith)) in
    elim (cases_Bool (row_fits fs)) [
      | inl fits ↦ (
        ap (λ x. x.1) (here ∙ cond-true (row_fits fs) _ _ fits)
            ∙ (ap (λ x. row_text fs ++ x) (drop_all (length (row_text fs)) part (omega (arith, length_row fs fits))) ∙ append-nil (row_text fs)),
        fits,
      )
      | inr wide ↦ let no' = ap (λ x. x.0) (here ∙ cond-false (row_fits fs) _ _ wide) in cc
    ]

-- the part before `at` and the fields to come make the whole row
pub row_turn : (fs : List Field) (i : ℕ) (h : i < length fs) (at k : ℕ) (xs ys all : List ℕ) → at ≤ length xs → length ys ≡ (get_or fs i no_field).width
    → ys ≡ field (get_or fs i no_field).width (pos (get_or fs i no_field).number) → take at xs ++ row_text (drop i fs) ≡ all
    → take (at + (get_or fs i no_field).width) (put_mid at k xs ys) ++ row_text (drop (i + 1) fs) ≡ all
row_turn fs i h at k xs ys all room len is e =
    ap (λ x. x ++ row_text (drop (i + 1) fs)) (take-put_mid at k xs ys (at + (get_or fs i no_field).width) (omega arith) room)
    ∙ append_assoc (take at xs) ys (row_text (drop (i + 1) fs))
    ∙ ap (λ x. take at xs ++ (x ++ row_text (drop (i + 1) fs))) is
    ∙ ap (λ x. take at xs ++ x) (sym (text_more fs i h))
    ∙ e
