-- The first line of what is left of a body: at fault, or an order with the other lines behind it.
use Rattle.std.proofs.Common.{◌≡◌, ℕ, suc, ◌<◌, true, false, eqb, List, [], ◌∷◌, length, get_or, take, drop, Some, Ok, Err, Option, Result, sym, refl, ap, ◌∙◌, subst, inl, inr, arith}
use Rattle.std.proofs.lemmas.List.{length-take-le}
use Rattle.std.proofs.lemmas.Bool.{cond-true, cond-false, eq-eqb, ne_eqb, and_from, cases_eq}
use Rattle.play.specs.declared.fault.PlayFault.{PlayFault}
use Rattle.play.specs.declared.fault.PlayFault.TheVariants as play_fault
use Rattle.play.specs.declared.fault.LineFault.{LineFault}
use Rattle.play.specs.declared.fault.LineFault.TheVariants as line_fault
use Rattle.play.specs.declared.header.ItemChoice.{ItemChoice}
use Rattle.play.specs.declared.letter.OrderLetter.{OrderLetter}
use Rattle.play.specs.declared.letter.Letter.TheVariants.{Order}
use Rattle.play.specs.Lines.{LF, Line, in_front, lines_of}
use Rattle.play.specs.Letters.{letter_of, width_of}
use Rattle.play.specs.Faults.{at_line}
use Rattle.play.specs.Orders.{PlainOrder, order_reading}
use Rattle.play.specs.Play.{order_letter, letter_in, whole, order_opened, order_line, before, order_lines, fault_part}
use Rattle.play.proofs.Lines.{Unbroken, Leads, first_ends}

-- the first fault of the lines of bs, the first of which has the number n
abbrev pub fault_in : ItemChoice → ℕ → List ℕ → Option PlayFault
fault_in items n bs = fault_part (order_lines items n (lines_of bs))

-- the first byte is the first line's, an LF standing for no column
pub leading_byte : (bs : List ℕ) → 0 < length bs → Leads (λ l. letter_in l ≡ letter_of (get_or bs 0 0)) (lines_of bs)
leading_byte [] h = absurd (omega arith)
leading_byte (b ∷ bs) h =
    elim (cases_eq b LF) [
      | inl e ↦ subst (Leads (λ l. letter_in l ≡ letter_of b)) (sym (cond-true (eqb b LF) _ _ (eq-eqb b LF e))) (ap letter_of (sym e))
      | inr e ↦ subst (Leads (λ l. letter_in l ≡ letter_of b)) (sym (cond-false (eqb b LF) _ _ (ne_eqb b LF e))) (in_front_byte (lines_of bs))
    ] where
      in_front_byte : (ls : List Line) → Leads (λ l. letter_in l ≡ letter_of b) (in_front b ls)
      in_front_byte [] = refl
      in_front_byte (l ∷ ls) = refl

-- a fault of the first line is the first fault
pub leading_fault : (items : ItemChoice) (n : ℕ) (f : PlayFault) (ls : List Line) → Leads (λ l. order_line items n l ≡ Err f) ls → fault_part (order_lines items n ls) ≡ Some f
leading_fault items n f [] h = elim h [ ]
leading_fault items n f (l ∷ ls) h = ap (λ r. fault_part (before r (order_lines items (suc n) ls))) h

both : (P Q R : Line → Type 0) (ls : List Line) → ((l : Line) → P l → Q l → R l) → Leads P ls → Leads Q ls → Leads R ls
both P Q R [] f p q = elim p [ ]
both P Q R (l ∷ ls) f p q = f l p q

-- an order in front changes no fault
pub fault_behind : (o : PlainOrder) (os : Result (List PlainOrder) PlayFault) → fault_part (before (Ok o) os) ≡ fault_part os
fault_behind o (Ok os) = refl
fault_behind o (Err f) = refl

module _ (items : ItemChoice) (n : ℕ) (bs : List ℕ) (some : 0 < length bs) where
  -- a letter that opens no order
  pub letter_fault : (f : PlayFault) → order_letter n (letter_of (get_or bs 0 0)) ≡ Err f → fault_in items n bs ≡ Some f
  letter_fault f e =
      leading_fault items n f (lines_of bs)
      (both (λ l. letter_in l ≡ letter_of (get_or bs 0 0)) (λ l. letter_in l ≡ letter_of (get_or bs 0 0)) (λ l. order_line items n l ≡ Err f) (lines_of bs)
      (λ l p q. ap (λ o. order_opened items n l (order_letter n o)) p ∙ ap (order_opened items n l) e) (leading_byte bs some) (leading_byte bs some))

  module _ (k : OrderLetter) (opens : order_letter n (letter_of (get_or bs 0 0)) ≡ Ok k) where
    opened_line : (l : Line) → letter_in l ≡ letter_of (get_or bs 0 0) → order_line items n l ≡ order_opened items n l (Ok k)
    opened_line l p = ap (λ o. order_opened items n l (order_letter n o)) p ∙ ap (order_opened items n l) opens

    -- a first line that has not just its letter's columns and an LF
    pub cut_fault : Leads (λ l. whole (width_of (Order k)) l ≡ false) (lines_of bs) → fault_in items n bs ≡ Some (play_fault.Line n line_fault.Cut)
    cut_fault h =
        leading_fault items n (play_fault.Line n line_fault.Cut) (lines_of bs)
        (both (λ l. letter_in l ≡ letter_of (get_or bs 0 0)) (λ l. whole (width_of (Order k)) l ≡ false) (λ l. order_line items n l ≡ Err (play_fault.Line n line_fault.Cut)) (lines_of bs)
        (λ l p q. opened_line l p ∙ cond-false (whole (width_of (Order k)) l) _ _ q) (leading_byte bs some) h)

    -- a whole first line
    module _ (fits : width_of (Order k) < length bs) (unbroken : Unbroken (width_of (Order k)) bs) (ends : get_or bs (width_of (Order k)) 0 ≡ LF) where
      are : lines_of bs ≡ record { columns = take (width_of (Order k)) bs; ended = true } ∷ lines_of (drop (suc (width_of (Order k))) bs)
      are = first_ends (width_of (Order k)) bs fits unbroken ends

      read : order_line items n (record { columns = take (width_of (Order k)) bs; ended = true }) ≡ at_line (order_reading items k (take (width_of (Order k)) bs)) n
      read =
          opened_line (record { columns = take (width_of (Order k)) bs; ended = true }) (subst (Leads (λ l. letter_in l ≡ letter_of (get_or bs 0 0))) are (leading_byte bs some))
          ∙ cond-true (whole (width_of (Order k)) (record { columns = take (width_of (Order k)) bs; ended = true })) _ _ (and_from (eqb (length (take (width_of (Order k)) bs)) (width_of (Order k))) true (eq-eqb (length (take (width_of (Order k)) bs)) (width_of (Order k)) (length-take-le (width_of (Order k)) bs (omega arith))) refl)

      lines_are : order_lines items n (lines_of bs) ≡ before (at_line (order_reading items k (take (width_of (Order k)) bs)) n) (order_lines items (suc n) (lines_of (drop (suc (width_of (Order k))) bs)))
      lines_are = ap (order_lines items n) are ∙ ap (λ r. before r (order_lines items (suc n) (lines_of (drop (suc (width_of (Order k))) bs)))) read

      pub column_fault : (f : LineFault) → order_reading items k (take (width_of (Order k)) bs) ≡ Err f → fault_in items n bs ≡ Some (play_fault.Line n f)
      column_fault f e = ap fault_part lines_are ∙ ap (λ r. fault_part (before (at_line r n) (order_lines items (suc n) (lines_of (drop (suc (width_of (Order k))) bs))))) e

      pub goes_on : (o : PlainOrder) → order_reading items k (take (width_of (Order k)) bs) ≡ Ok o → fault_in items n bs ≡ fault_in items (suc n) (drop (suc (width_of (Order k))) bs)
      goes_on o e =
          ap fault_part lines_are
          ∙ ap (λ r. fault_part (before (at_line r n) (order_lines items (suc n) (lines_of (drop (suc (width_of (Order k))) bs))))) e
          ∙ fault_behind o (order_lines items (suc n) (lines_of (drop (suc (width_of (Order k))) bs)))
