-- The parts of a call line, written one after the other.
use Rattle.std.proofs.Common.{◌≡◌, ℕ, ◌≤◌, ltb, List, [], ◌∷◌, ◌++◌, length, get_or, take, drop, set, Some, None, Ok, Err, Option, Result, sym, refl, ap, ◌∙◌, inl, inr, append_assoc, append-nil, arith}
use borrow.Rule.Slice.PartMut.{put_mid, post_of}
use Rattle.std.specs.Option.{ok_or}
use Rattle.std.proofs.lemmas.List.{length-append, take_at, drop_at, drop_all, drop-drop, drop_more, set_at}
use Rattle.std.proofs.lemmas.Bool.{cases_Bool, cond-true, cond-false, le-ltb}
use Rattle.tickets.specs.declared.WorkerNo.{WorkerNo}
use Rattle.columns.specs.declared.write_refusal.WriteRefusal.{WriteRefusal}
use Rattle.columns.specs.Row.{row_text, row_fits}
use Rattle.columns.proofs.Rows.{length_row}
use Rattle.lines.specs.CallLine.{Reply, reply_item, blanks, shown, call_fields, line_of, call_line, line_put, call_written}

pub chosen : {X E : Type 0} (o : Option X) (e : E) (x : X) → ok_or o e ≡ Ok x → o ≡ Some x
chosen None e x p = cc
chosen (Some y) e x p = let same : y ≡ x = cc in ap Some same

pub not_chosen : {X E : Type 0} (o : Option X) (e d : E) → ok_or o e ≡ Err d → (o ≡ None) × (d ≡ e)
not_chosen None e d p = let same : d ≡ e = cc in (refl, same)
not_chosen (Some y) e d p = cc

-- numbers in 29 columns, an item in 15, and an LF
pub three_parts : (row item buffer : List ℕ) → length row ≡ 29 → length item ≡ 15 → 45 ≤ length buffer
    → set (put_mid 29 15 (row ++ post_of 0 29 buffer) item) 44 10 ≡ (row ++ (item ++ (10 ∷ []))) ++ drop (length (row ++ (item ++ (10 ∷ [])))) buffer
three_parts row item buffer r i room =
    let both : length (row ++ item) ≡ 44 = length-append row item ∙ omega arith in
    let long : length (row ++ (item ++ (10 ∷ []))) ≡ 45 = length-append row (item ++ (10 ∷ [])) ∙ omega (arith, length-append item (10 ∷ [])) in
    let front : take 29 (row ++ drop 29 buffer) ≡ row = take_at row (drop 29 buffer) 29 r in
    let behind : drop 15 (drop 29 (row ++ drop 29 buffer)) ≡ get_or buffer 44 0 ∷ drop 45 buffer = ap (drop 15) (drop_at row (drop 29 buffer) 29 r) ∙ drop-drop 15 29 buffer ∙ drop_more buffer 44 0 (omega arith) in
    ap (λ x. set (x ++ (item ++ drop 15 (drop 29 (row ++ drop 29 buffer)))) 44 10) front
    ∙ ap (λ x. set (row ++ (item ++ x)) 44 10) behind
    ∙ ap (λ x. set x 44 10) (sym (append_assoc row item (get_or buffer 44 0 ∷ drop 45 buffer)))
    ∙ set_at (row ++ item) (get_or buffer 44 0) (drop 45 buffer) 10 44 both
    ∙ append_assoc row item (10 ∷ drop 45 buffer)
    ∙ ap (λ x. row ++ x) (sym (append_assoc item (10 ∷ []) (drop 45 buffer)))
    ∙ sym (append_assoc row (item ++ (10 ∷ [])) (drop 45 buffer))
    ∙ ap (λ n. (row ++ (item ++ (10 ∷ []))) ++ drop n buffer) (sym long)

-- an item's columns are fifteen, and so are the blanks
pub shown_wide : {I : Type 0} (text : I → Option (List ℕ)) → ((x : I) (cs : List ℕ) → text x ≡ Some cs → length cs ≡ 15) → (o : Option I) (cs : List ℕ) → shown text o ≡ Some cs → length cs ≡ 15
shown_wide text wide None cs e = let same : blanks ≡ cs = cc in ap length (sym same)
shown_wide text wide (Some i) cs e = wide i cs e

-- a line that was written is the line
pub line_done : (line : Option (List ℕ)) (buffer after : List ℕ) (u : Unit {0}) → length buffer ≡ 45 → ((cs : List ℕ) → line ≡ Some cs → length cs ≡ 45)
    → ◌≡◌ {A = Result (Unit {0}) WriteRefusal × List ℕ} (Ok u, after) (call_written line buffer) → line ≡ Some after
line_done line buffer after u room wide said = go line refl (said ∙ cond-false (ltb (length buffer) 45) _ _ (le-ltb (length buffer) 45 (omega arith))) where
  go : (x : Option (List ℕ)) → line ≡ x → ◌≡◌ {A = Result (Unit {0}) WriteRefusal × List ℕ} (Ok u, after) (line_put x buffer) → line ≡ Some after
  go None is e = let no' = ap (λ x. x.0) e in cc
  go (Some cs) is e = is ∙ ap Some (sym (ap (λ x. x.1) e ∙ (ap (λ x. cs ++ x) (drop_all (length cs) buffer (omega (arith, wide cs is))) ∙ append-nil cs)))

-- it has 44 columns and an LF
pub line_wide : {I : Type 0} (text : I → Option (List ℕ)) → ((x : I) (cs : List ℕ) → text x ≡ Some cs → length cs ≡ 15) → (n : ℕ) (w : WorkerNo) (r : Reply I) (cs : List ℕ) → call_line text n w r ≡ Some cs → length cs ≡ 45
line_wide text wide n w r cs e = go (shown text (reply_item r)) refl where
  go : (x : Option (List ℕ)) → shown text (reply_item r) ≡ x → length cs ≡ 45
  go None is = let no' = ap (line_of (call_fields n w r)) (sym is) ∙ e in cc
  go (Some item) is =
      let here = ap (line_of (call_fields n w r)) (sym is) ∙ e in
      elim (cases_Bool (row_fits (call_fields n w r))) [
        | inl fits ↦
            let done = sym (cond-true (row_fits (call_fields n w r)) _ _ fits) ∙ here in
            let same : row_text (call_fields n w r) ++ (item ++ (10 ∷ [])) ≡ cs = cc in
            sym (ap length same)
            ∙ (length-append (row_text (call_fields n w r)) (item ++ (10 ∷ [])) ∙ omega (arith, length_row (call_fields n w r) fits, length-append item (10 ∷ []), shown_wide text wide (reply_item r) item is))
        | inr no_fit ↦ let no' = sym (cond-false (row_fits (call_fields n w r)) _ _ no_fit) ∙ here in cc
      ]
