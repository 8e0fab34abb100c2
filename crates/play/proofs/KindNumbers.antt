-- A header's kinds, by their numbers: 1 or 2.
use Rattle.std.proofs.Common.{◌≡◌, ℕ, ◌-◌, Bool, true, false, cond, ◌&&◌, leb, List, take, drop, ℤ, pos, negsuc, Some, None, Ok, Err, Option, Result, sym, refl, ap, ◌∙◌, subst, inl, inr, arith}
use Rattle.std.proofs.lemmas.Bool.{cases_lt, cond-true, cond-false, and_from, and_right, le-leb, lt-leb}
use Rattle.std.proofs.lemmas.Bool.Decides.{nat_tests}
use Rattle.columns.specs.declared.fault.ColumnFault.{ColumnFault}
use Rattle.columns.specs.declared.read_refusal.ReadRefusal.{ReadRefusal}
use Rattle.columns.specs.declared.read_refusal.ReadRefusal.TheVariants.{Range}
use Rattle.columns.specs.Faults.{at_column}
use Rattle.columns.specs.Number.{number}
use Rattle.columns.specs.Reading.{unsigned_of, unsigned_reading}
use Rattle.play.specs.declared.header.RingChoice.{RingChoice}
use Rattle.play.specs.declared.header.ItemChoice.{ItemChoice}
use Rattle.play.specs.declared.header.Header.{Header}
use Rattle.play.specs.declared.fault.LineFault.{LineFault}
use Rattle.play.specs.declared.fault.LineFault.TheVariants.{Column}
use Rattle.play.specs.Kinds.{ring_numbered, item_numbered, KindRead}
use Rattle.play.specs.Orders.{ring_choice, item_choice, field_reading, header_from, header_reading}

-- an answer's number, as the kind that it stands for
abbrev pub as_kind : {K : Type 0} → (ℕ → K) → Result ℕ ColumnFault → Result K ColumnFault
as_kind choice (Ok n) = Ok (choice n)
as_kind choice (Err f) = Err f

module _ {K : Type 0} (choice : ℕ → K) (numbered : ℕ → Result K ReadRefusal) (two : (n : ℕ) → numbered n ≡ cond (leb 1 n && leb n 2) (Ok (choice n)) (Err Range)) (k : ℕ) (r : Result K ColumnFault) where
  kept : (b : Bool) (n : ℕ) → at_column k (cond b (Ok (choice n)) (Err Range)) ≡ as_kind choice (at_column k (cond b (Ok n) (Err Range)))
  kept b n = elim b as (λ x. at_column k (cond x (Ok (choice n)) (Err Range)) ≡ as_kind choice (at_column k (cond x (Ok n) (Err Range)))) [ true ↦ refl | false ↦ refl ]

  kind_of : (o : Option ℤ) → KindRead (λ n x. x ≡ numbered n) k (at_column k (unsigned_of 0 65535 o)) r → r ≡ as_kind choice (at_column k (unsigned_of 1 2 o))
  kind_of None h = h
  kind_of (Some (negsuc n)) h = h
  kind_of (Some (pos n)) h =
      elim (cases_lt 65535 n) [
        | inl past ↦
            subst (λ a. KindRead (λ m x. x ≡ numbered m) k a r) (ap (at_column k) (cond-false (leb 0 n && leb n 65535) (Ok n) (Err Range) (and_right (leb 0 n) (leb n 65535) (lt-leb n 65535 past)))) h
            ∙ ap (λ b. as_kind choice (at_column k (cond b (Ok n) (Err Range)))) (sym (and_right (leb 1 n) (leb n 2) (lt-leb n 2 (omega arith))))
        | inr small ↦
            let told : KindRead (λ m x. x ≡ numbered m) k (Ok n) r = subst (λ a. KindRead (λ m x. x ≡ numbered m) k a r) (ap (at_column k) (cond-true (leb 0 n && leb n 65535) (Ok n) (Err Range) (and_from (leb 0 n) (leb n 65535) (le-leb 0 n (omega arith)) (le-leb n 65535 small)))) h in
            told.2 ∙ ap (at_column k) (told.1 ∙ two n) ∙ kept (leb 1 n && leb n 2) n
      ]

two_rings : (n : ℕ) → ring_numbered n ≡ cond (leb 1 n && leb n 2) (Ok (ring_choice n)) (Err Range)
two_rings n = grind (arith, nat_tests)

two_items : (n : ℕ) → item_numbered n ≡ cond (leb 1 n && leb n 2) (Ok (item_choice n)) (Err Range)
two_items n = grind (arith, nat_tests)

pub ring_of : (k l : ℕ) (cs : List ℕ) (r : Result RingChoice ColumnFault) → KindRead (λ n x. x ≡ ring_numbered n) k (field_reading k l 0 65535 cs) r → r ≡ as_kind ring_choice (field_reading k l 1 2 cs)
unfolding unsigned_reading
ring_of k l cs r h = kind_of ring_choice ring_numbered two_rings k r (number (take (l - (k - 1)) (drop (k - 1) cs))) h

pub item_of : (k l : ℕ) (cs : List ℕ) (r : Result ItemChoice ColumnFault) → KindRead (λ n x. x ≡ item_numbered n) k (field_reading k l 0 65535 cs) r → r ≡ as_kind item_choice (field_reading k l 1 2 cs)
unfolding unsigned_reading
item_of k l cs r h = kind_of item_choice item_numbered two_items k r (number (take (l - (k - 1)) (drop (k - 1) cs))) h

-- a header by its four parts, the kinds among them
abbrev pub header_of : Result RingChoice ColumnFault → Result ℕ ColumnFault → Result ℕ ColumnFault → Result ItemChoice ColumnFault → Result Header LineFault
header_of (Err f) c w i = Err (Column f)
header_of (Ok r) (Err f) w i = Err (Column f)
header_of (Ok r) (Ok c) (Err f) i = Err (Column f)
header_of (Ok r) (Ok c) (Ok w) (Err f) = Err (Column f)
header_of (Ok r) (Ok c) (Ok w) (Ok i) = Ok (record { ring = r; cells = c; workers = w; items = i })

header_kinds : (x c w y : Result ℕ ColumnFault) → header_of (as_kind ring_choice x) c w (as_kind item_choice y) ≡ header_from x c w y
header_kinds (Err f) c w y = refl
header_kinds (Ok r) (Err f) w y = refl
header_kinds (Ok r) (Ok c) (Err f) y = refl
header_kinds (Ok r) (Ok c) (Ok w) (Err f) = refl
header_kinds (Ok r) (Ok c) (Ok w) (Ok i) = refl

pub header_told : (line : List ℕ) (r : Result RingChoice ColumnFault) (c w : Result ℕ ColumnFault) (i : Result ItemChoice ColumnFault) → r ≡ as_kind ring_choice (field_reading 2 3 1 2 line) → c ≡ field_reading 4 8 1 1024 line → w ≡ field_reading 9 12 1 64 line → i ≡ as_kind item_choice (field_reading 13 14 1 2 line) → header_of r c w i ≡ header_reading line
header_told line r c w i er ec ew ei =
    let x = field_reading 2 3 1 2 line in
    let y = field_reading 13 14 1 2 line in
    ap (λ t. header_of t c w i) er
    ∙ ap (λ t. header_of (as_kind ring_choice x) t w i) ec
    ∙ ap (λ t. header_of (as_kind ring_choice x) (field_reading 4 8 1 1024 line) t i) ew
    ∙ ap (header_of (as_kind ring_choice x) (field_reading 4 8 1 1024 line) (field_reading 9 12 1 64 line)) ei
    ∙ header_kinds x (field_reading 4 8 1 1024 line) (field_reading 9 12 1 64 line) y
