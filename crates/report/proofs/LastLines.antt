-- A line that fills its buffer.
use Rattle.std.proofs.Common.{◌≡◌, ℕ, ◌+◌, true, cond, ltb, List, [], ◌∷◌, ◌++◌, length, Ok, Result, ap, ◌∙◌, inl, inr, append-nil, arith}
use Rattle.std.proofs.lemmas.List.{length-append, drop_all}
use Rattle.std.proofs.lemmas.Bool.{cases_Bool, cond-true, cond-false, le-ltb}
use Rattle.columns.specs.declared.write_refusal.WriteRefusal.{WriteRefusal}
use Rattle.columns.specs.declared.row.Field.{Field}
use Rattle.columns.specs.Row.{row_width, row_text, row_fits, line_text, line_written}
use Rattle.columns.proofs.Rows.{length_row}

module _ (mark : ℕ) (fs : List Field) (buffer after : List ℕ) (room : length buffer ≡ row_width fs + 2) where
  wide : {X : Type 0} (x y : X) → cond (ltb (length buffer) (row_width fs + 2)) x y ≡ y
  wide x y = cond-false (ltb (length buffer) (row_width fs + 2)) x y (le-ltb (length buffer) (row_width fs + 2) (omega arith))

  pub filled : (u : Unit {0}) → ◌≡◌ {A = Result (Unit {0}) WriteRefusal × List ℕ} (Ok u, after) (line_written mark fs buffer) → (after ≡ line_text mark fs) × (row_fits fs ≡ true)
  filled u said =
      elim (cases_Bool (row_fits fs)) [
        | inl fits ↦ (
          ap (λ x. x.1) (said ∙ wide _ _ ∙ cond-true (row_fits fs) _ _ fits)
              ∙ (ap (λ x. line_text mark fs ++ x) (drop_all (length (line_text mark fs)) buffer (omega (arith, length_row fs fits, length-append (row_text fs) (10 ∷ [])))) ∙ append-nil (line_text mark fs)),
          fits,
        )
        | inr no_fit ↦ let no' = ap (λ x. x.0) (said ∙ wide _ _ ∙ cond-false (row_fits fs) _ _ no_fit) in cc
      ]
