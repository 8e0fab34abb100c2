-- The ways out of the search for a fault, and the way on, by places of the body.
use Rattle.std.proofs.Common.{◌≡◌, ℕ, suc, ◌+◌, ◌-◌, ◌<◌, ◌≤◌, List, length, get_or, take, drop, Some, Ok, Err, sym, ap, ◌∙◌, subst, arith}
use Rattle.std.proofs.lemmas.List.{drop-drop}
use Rattle.play.specs.declared.fault.PlayFault.{PlayFault}
use Rattle.play.specs.declared.fault.PlayFault.TheVariants as play_fault
use Rattle.play.specs.declared.fault.LineFault.{LineFault}
use Rattle.play.specs.declared.fault.LineFault.TheVariants as line_fault
use Rattle.play.specs.declared.header.ItemChoice.{ItemChoice}
use Rattle.play.specs.declared.letter.OrderLetter.{OrderLetter}
use Rattle.play.specs.declared.letter.Letter.TheVariants.{Order}
use Rattle.play.specs.Lines.{LF}
use Rattle.play.specs.Letters.{letter_of, width_of}
use Rattle.play.specs.Orders.{PlainOrder, order_reading}
use Rattle.play.specs.Play.{order_letter}
use Rattle.play.proofs.FirstLine.{fault_in, letter_fault, cut_fault, column_fault, goes_on}
use Rattle.play.proofs.Cuts.{Clear, byte_at, first_byte, left, unbroken, stops, breaks, runs_on}

module _ (items : ItemChoice) (n : ℕ) (body : List ℕ) (at : ℕ) (inside : at < length body) where
  some : 0 < length (drop at body)
  some = omega (arith, left body at)

  pub letter_at : (f : PlayFault) → order_letter n (letter_of (get_or body at 0)) ≡ Err f → fault_in items n (drop at body) ≡ Some f
  letter_at f e = letter_fault items n (drop at body) some f (ap (λ b. order_letter n (letter_of b)) (first_byte body at) ∙ e)

  module _ (k : OrderLetter) (w : ℕ) (opens : order_letter n (letter_of (get_or body at 0)) ≡ Ok k) (wide : w ≡ width_of (Order k)) where
    opens_there : order_letter n (letter_of (get_or (drop at body) 0 0)) ≡ Ok k
    opens_there = ap (λ b. order_letter n (letter_of b)) (first_byte body at) ∙ opens

    -- the body ends at the column, or an LF stands there
    pub stops_at : (column : ℕ) → at < column → column ≡ length body → Clear body at column → fault_in items n (drop at body) ≡ Some (play_fault.Line n line_fault.Cut)
    stops_at column p e c =
        let z : at + (column - at) ≡ column = omega arith in
        cut_fault items n (drop at body) some k opens_there (stops body at (column - at) (width_of (Order k)) (omega arith) (omega arith) (subst (Clear body at) (sym z) c))

    pub breaks_at : (column : ℕ) → at ≤ column → column < at + w → column < length body → Clear body at column → get_or body column 0 ≡ LF
        → fault_in items n (drop at body) ≡ Some (play_fault.Line n line_fault.Cut)
    breaks_at column p q h c e =
        let z : at + (column - at) ≡ column = omega arith in
        cut_fault items n (drop at body) some k opens_there
        (breaks body at (column - at) (width_of (Order k)) (omega arith) (omega arith) (subst (Clear body at) (sym z) c) (ap (λ m. get_or body m 0) z ∙ e))

    -- no LF behind the last column
    pub runs_on_at : at + w < length body → Clear body at (at + w) → (get_or body (at + w) 0 ≡ LF → ⊥) → fault_in items n (drop at body) ≡ Some (play_fault.Line n line_fault.Cut)
    runs_on_at h c e =
        cut_fault items n (drop at body) some k opens_there
        (runs_on body at (width_of (Order k)) (omega arith) (subst (λ m. Clear body at (at + m)) wide c) (subst (λ m. get_or body (at + m) 0 ≡ LF → ⊥) wide e))

    module _ (fits : at + w < length body) (clear : Clear body at (at + w)) (ends : get_or body (at + w) 0 ≡ LF) where
      there : width_of (Order k) < length (drop at body)
      there = omega (arith, left body at)

      ends_there : get_or (drop at body) (width_of (Order k)) 0 ≡ LF
      ends_there = byte_at body at (width_of (Order k)) ∙ ap (λ m. get_or body (at + m) 0) (sym wide) ∙ ends

      pub column_at : (f : LineFault) → order_reading items k (take w (drop at body)) ≡ Err f → fault_in items n (drop at body) ≡ Some (play_fault.Line n f)
      column_at f e =
          column_fault items n (drop at body) some k opens_there there (unbroken body at (width_of (Order k)) (subst (λ m. Clear body at (at + m)) wide clear)) ends_there f
          (ap (λ m. order_reading items k (take m (drop at body))) (sym wide) ∙ e)

      pub goes_on_at : (o : PlainOrder) → order_reading items k (take w (drop at body)) ≡ Ok o → fault_in items n (drop at body) ≡ fault_in items (n + 1) (drop (at + w + 1) body)
      goes_on_at o e =
          let m : suc n ≡ n + 1 = omega arith in
          let z : at + suc (width_of (Order k)) ≡ at + w + 1 = omega arith in
          goes_on items n (drop at body) some k opens_there there (unbroken body at (width_of (Order k)) (subst (λ m. Clear body at (at + m)) wide clear)) ends_there o
          (ap (λ m. order_reading items k (take m (drop at body))) (sym wide) ∙ e)
          ∙ ap (λ x. fault_in items x (drop (suc (width_of (Order k))) (drop at body))) m
          ∙ ap (fault_in items (n + 1)) (drop-drop (suc (width_of (Order k))) at body ∙ ap (λ x. drop x body) z)
