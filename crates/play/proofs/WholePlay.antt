-- A whole play by its first line and its body.
use Rattle.std.proofs.Common.{◌≡◌, ℕ, ◌≤◌, true, ltb, List, [], ◌∷◌, length, take, drop, Some, None, Ok, Err, Option, Result, sym, refl, ap, ◌∙◌, inl, inr}
use Rattle.std.proofs.lemmas.Bool.{cond-false, cases_Bool, le-ltb}
use Rattle.play.specs.declared.fault.PlayFault.{PlayFault}
use Rattle.play.specs.declared.fault.PlayFault.TheVariants as play_fault
use Rattle.play.specs.declared.header.Header.{Header}
use Rattle.play.specs.declared.letter.Letter.{Letter}
use Rattle.play.specs.declared.letter.Letter.TheVariants.{Ring, Order}
use Rattle.play.specs.Lines.{Line, lines_of}
use Rattle.play.specs.Orders.{PlainOrder}
use Rattle.play.specs.Play.{letter_in, first_letter, whole, first_whole, header_opened, header_line, first_header, order_lines, with_orders, play_from, play_lines, longest, play_reading, fault_part}
use Rattle.play.specs.Text.{orders_text}
use Rattle.play.proofs.Lines.{text_of_lines, first_ends}
use Rattle.play.proofs.Whole.{whole_shape}
use Rattle.play.proofs.OrderText.{ItemLaws}
use Rattle.play.proofs.PlayText.{orders_only}

-- a header is read from a whole line only
whole_header : (l : Line) (h : Header) → header_line l ≡ Ok h → whole 14 l ≡ true
whole_header l h e = go (letter_in l) refl where
  go : (x : Option Letter) → letter_in l ≡ x → whole 14 l ≡ true
  go None is = let q = ap (λ x. header_opened l (first_letter x)) (sym is) ∙ e in cc
  go (Some (Order k)) is = let q = ap (λ x. header_opened l (first_letter x)) (sym is) ∙ e in cc
  go (Some Ring) is =
      elim (cases_Bool (whole 14 l)) [
        | inl w ↦ w
        | inr w ↦ let q = sym (cond-false (whole 14 l) _ _ w) ∙ (ap (λ x. header_opened l (first_letter x)) (sym is) ∙ e) in cc
      ]

first_whole_header : (ls : List Line) (h : Header) → first_header ls ≡ Ok h → first_whole 14 ls ≡ true
first_whole_header [] h e = cc
first_whole_header (l ∷ ls) h e = whole_header l h e

module _ (bytes : List ℕ) (short : length bytes ≤ longest) where
  reads_lines : play_reading bytes ≡ play_lines (lines_of bytes)
  reads_lines = cond-false (ltb longest (length bytes)) _ _ (le-ltb longest (length bytes) short)

  pub header_fault : (f : PlayFault) → first_header (lines_of bytes) ≡ Err f → play_reading bytes ≡ Err f
  header_fault f e = reads_lines ∙ go (lines_of bytes) e where
    go : (ls : List Line) → first_header ls ≡ Err f → play_lines ls ≡ Err f
    go [] e = let same : play_fault.Header 1 ≡ f = cc in ap Err same
    go (l ∷ ls) e = ap (λ r. play_from r ls) e

  module _ (h : Header) (e : first_header (lines_of bytes) ≡ Ok h) where
    with_body : play_reading bytes ≡ with_orders h (order_lines h.items 2 (lines_of (drop 15 bytes)))
    with_body =
        let s = whole_shape 14 bytes (first_whole_header (lines_of bytes) h e) in
        reads_lines ∙ go (lines_of bytes) e (first_ends 14 bytes s.room s.clear s.ends) where
          go : (ls : List Line) → first_header ls ≡ Ok h → ls ≡ record { columns = take 14 bytes; ended = true } ∷ lines_of (drop 15 bytes)
              → play_lines ls ≡ with_orders h (order_lines h.items 2 (lines_of (drop 15 bytes)))
          go [] e is = cc
          go (l ∷ ls) e is = let same : ls ≡ lines_of (drop 15 bytes) = cc in ap (λ r. play_from r ls) e ∙ ap (λ x. with_orders h (order_lines h.items 2 x)) same

    pub body_fault : (f : PlayFault) → Some f ≡ fault_part (order_lines h.items 2 (lines_of (drop 15 bytes))) → play_reading bytes ≡ Err f
    body_fault f p = with_body ∙ go (order_lines h.items 2 (lines_of (drop 15 bytes))) p where
      go : (r : Result (List PlainOrder) PlayFault) → Some f ≡ fault_part r → with_orders h r ≡ Err f
      go (Ok os) p = cc
      go (Err g) p = let same : g ≡ f = cc in ap Err same

    pub body_orders : ItemLaws → None ≡ fault_part (order_lines h.items 2 (lines_of (drop 15 bytes)))
        → (os : List PlainOrder) × (play_reading bytes ≡ Ok (record { header = h; orders = os })) × (drop 15 bytes ≡ orders_text os)
    body_orders laws p = go (order_lines h.items 2 (lines_of (drop 15 bytes))) refl p where
      go : (r : Result (List PlainOrder) PlayFault) → order_lines h.items 2 (lines_of (drop 15 bytes)) ≡ r → None ≡ fault_part r
          → (os : List PlainOrder) × (play_reading bytes ≡ Ok (record { header = h; orders = os })) × (drop 15 bytes ≡ orders_text os)
      go (Ok os) is p = (os, with_body ∙ ap (with_orders h) is, sym (text_of_lines (drop 15 bytes)) ∙ (orders_only laws h.items 2 (lines_of (drop 15 bytes)) os is).0)
      go (Err g) is p = cc
