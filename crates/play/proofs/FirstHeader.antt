-- What the first line says of the header, by the bytes.
use Rattle.std.proofs.Common.{◌≡◌, ℕ, ◌<◌, true, false, List, [], ◌∷◌, length, get_or, take, drop, Ok, Err, ap, ◌∙◌}
use Rattle.std.proofs.lemmas.Bool.{cond-true, cond-false}
use Rattle.play.specs.declared.fault.PlayFault.{PlayFault}
use Rattle.play.specs.declared.fault.PlayFault.TheVariants as play_fault
use Rattle.play.specs.declared.fault.LineFault.TheVariants as line_fault
use Rattle.play.specs.Lines.{Line, lines_of}
use Rattle.play.specs.Letters.{letter_of}
use Rattle.play.specs.Faults.{at_line}
use Rattle.play.specs.Orders.{header_reading}
use Rattle.play.specs.Play.{first_letter, letter_in, whole, header_opened, first_header, first_whole}
use Rattle.play.proofs.Lines.{Leads, first_ends}
use Rattle.play.proofs.FirstLine.{leading_byte}
use Rattle.play.proofs.Whole.{whole_shape}

module _ (bs : List ℕ) (some : 0 < length bs) where
  pub header_letter : (f : PlayFault) → first_letter (letter_of (get_or bs 0 0)) ≡ Err f → first_header (lines_of bs) ≡ Err f
  header_letter f e = go (lines_of bs) (leading_byte bs some) where
    go : (ls : List Line) → Leads (λ l. letter_in l ≡ letter_of (get_or bs 0 0)) ls → first_header ls ≡ Err f
    go [] h = elim h [ ]
    go (l ∷ ls) h = ap (λ o. header_opened l (first_letter o)) h ∙ ap (header_opened l) e

  module _ (u : Unit {0}) (opens : first_letter (letter_of (get_or bs 0 0)) ≡ Ok u) where
    pub header_cut : first_whole 14 (lines_of bs) ≡ false → first_header (lines_of bs) ≡ Err (play_fault.Line 1 line_fault.Cut)
    header_cut = go (lines_of bs) (leading_byte bs some) where
      go : (ls : List Line) → Leads (λ l. letter_in l ≡ letter_of (get_or bs 0 0)) ls → first_whole 14 ls ≡ false → first_header ls ≡ Err (play_fault.Line 1 line_fault.Cut)
      go [] h n = elim h [ ]
      go (l ∷ ls) h n = ap (λ o. header_opened l (first_letter o)) h ∙ ap (header_opened l) opens ∙ cond-false (whole 14 l) _ _ n

    pub header_read : first_whole 14 (lines_of bs) ≡ true → first_header (lines_of bs) ≡ at_line (header_reading (take 14 bs)) 1
    header_read n =
        let s = whole_shape 14 bs n in
        go (lines_of bs) (leading_byte bs some) n (first_ends 14 bs s.room s.clear s.ends) where
          go : (ls : List Line) → Leads (λ l. letter_in l ≡ letter_of (get_or bs 0 0)) ls → first_whole 14 ls ≡ true → ls ≡ record { columns = take 14 bs; ended = true } ∷ lines_of (drop 15 bs)
              → first_header ls ≡ at_line (header_reading (take 14 bs)) 1
          go [] h n e = elim h [ ]
          go (l ∷ ls) h n e =
              let same : l ≡ record { columns = take 14 bs; ended = true } = cc in
              ap (λ o. header_opened l (first_letter o)) h ∙ ap (header_opened l) opens ∙ cond-true (whole 14 l) _ _ n ∙ ap (λ (x : Line). at_line (header_reading x.columns) 1) same
