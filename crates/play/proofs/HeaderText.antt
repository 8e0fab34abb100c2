-- A header line without fault is the text of its header, and such a text is read as the header.
use Rattle.std.proofs.Common.{◌≡◌, ℕ, true, eqb, List, ◌∷◌, ◌++◌, length, get_or, take, drop, pos, Some, None, Ok, Err, Option, Result, sym, refl, ap, ◌∙◌, subst, inl, inr, arith}
use Rattle.std.proofs.ByRecursion.{All-append}
use Rattle.std.proofs.lemmas.List.{length-append, take_all, take_at, drop_at, drop-drop}
use Rattle.std.proofs.lemmas.Bool.{cond-true, cond-false, cases_Bool, cases_eq, eq-eqb, ne_eqb, eqb-true, and_from, and_parts}
use Rattle.columns.specs.declared.fault.ColumnFault.{ColumnFault}
use Rattle.columns.specs.Number.{field}
use Rattle.columns.proofs.Laws.{printed_field}
use Rattle.play.specs.declared.fault.LineFault.{LineFault}
use Rattle.play.specs.declared.header.Header.{Header}
use Rattle.play.specs.declared.header.RingChoice.{RingChoice}
use Rattle.play.specs.declared.header.RingChoice.TheVariants.{Crq, Prq}
use Rattle.play.specs.declared.header.ItemChoice.{ItemChoice}
use Rattle.play.specs.declared.header.ItemChoice.TheVariants.{Patch, Job}
use Rattle.play.specs.declared.letter.Letter.{Letter}
use Rattle.play.specs.declared.letter.Letter.TheVariants.{Ring, Order}
use Rattle.play.specs.Lines.{LF, Line}
use Rattle.play.specs.Letters.{code_of}
use Rattle.play.specs.Faults.{at_line}
use Rattle.play.specs.Orders.{ring_choice, item_choice, field_reading, header_from, header_reading}
use Rattle.play.specs.Play.{first_letter, letter_in, whole, header_opened, header_line}
use Rattle.play.specs.Text.{Within, HeaderFits, ring_number, item_number, header_columns}
use Rattle.play.proofs.Fields.{letter_code, field_only, field_back, wide_field, by_first, by_parts, last_part}
use Rattle.play.proofs.OrderText.{Printed}

ring_numbered : (n : ℕ) → Within 1 2 n → n ≡ ring_number (ring_choice n)
ring_numbered n h =
    elim (cases_eq n 1) [
      | inl e ↦ e ∙ sym (ap ring_number (cond-true (eqb n 1) Crq Prq (eq-eqb n 1 e)))
      | inr e ↦ let two : n ≡ 2 = omega arith in two ∙ sym (ap ring_number (cond-false (eqb n 1) Crq Prq (ne_eqb n 1 e)))
    ]

item_numbered : (n : ℕ) → Within 1 2 n → n ≡ item_number (item_choice n)
item_numbered n h =
    elim (cases_eq n 1) [
      | inl e ↦ e ∙ sym (ap item_number (cond-true (eqb n 1) Patch Job (eq-eqb n 1 e)))
      | inr e ↦ let two : n ≡ 2 = omega arith in two ∙ sym (ap item_number (cond-false (eqb n 1) Patch Job (ne_eqb n 1 e)))
    ]

ring_chosen : (x : RingChoice) → (ring_choice (ring_number x) ≡ x) × Within 1 2 (ring_number x)
ring_chosen Crq = (refl, (omega arith, omega arith))
ring_chosen Prq = (refl, (omega arith, omega arith))

item_chosen : (x : ItemChoice) → (item_choice (item_number x) ≡ x) × Within 1 2 (item_number x)
item_chosen Patch = (refl, (omega arith, omega arith))
item_chosen Job = (refl, (omega arith, omega arith))

pub record HeaderParts (r c w i : Result ℕ ColumnFault) (h : Header) : Type 0 where
  pub ring : ℕ
  pub cells : ℕ
  pub workers : ℕ
  pub items : ℕ
  pub ring_read : r ≡ Ok ring
  pub cells_read : c ≡ Ok cells
  pub workers_read : w ≡ Ok workers
  pub items_read : i ≡ Ok items
  pub is : h ≡ record { ring = ring_choice ring; cells = cells; workers = workers; items = item_choice items }

parts : (r c w i : Result ℕ ColumnFault) (h : Header) → header_from r c w i ≡ Ok h → HeaderParts r c w i h
parts (Err f) c w i h e = cc
parts (Ok r) (Err f) w i h e = cc
parts (Ok r) (Ok c) (Err f) i h e = cc
parts (Ok r) (Ok c) (Ok w) (Err f) h e = cc
parts (Ok r) (Ok c) (Ok w) (Ok i) h e =
    let is : h ≡ record { ring = ring_choice r; cells = c; workers = w; items = item_choice i } = cc in
    record { ring = r; cells = c; workers = w; items = i; ring_read = refl; cells_read = refl; workers_read = refl; items_read = refl; is = is }

columns_only : (cs : List ℕ) (h : Header) → get_or cs 0 LF ≡ code_of Ring → length cs ≡ 14 → header_reading cs ≡ Ok h → (cs ≡ header_columns h) × HeaderFits h
columns_only cs h c n e =
    let p = parts (field_reading 2 3 1 2 cs) (field_reading 4 8 1 1024 cs) (field_reading 9 12 1 64 cs) (field_reading 13 14 1 2 cs) h e in
    let r = field_only 2 2 1 2 cs p.ring p.ring_read (omega arith) in
    let k = field_only 4 5 1 1024 cs p.cells p.cells_read (omega arith) in
    let w = field_only 9 4 1 64 cs p.workers p.workers_read (omega arith) in
    let i = field_only 13 2 1 2 cs p.items p.items_read (omega arith) in
    let F : ℕ → ℕ → List ℕ = λ a b. code_of Ring ∷ (field 2 (pos a) ++ (field 5 (pos p.cells) ++ (field 4 (pos p.workers) ++ field 2 (pos b)))) in
    let all : cs ≡ code_of Ring ∷ (field 2 (pos p.ring) ++ (field 5 (pos p.cells) ++ (field 4 (pos p.workers) ++ field 2 (pos p.items)))) =
    by_first cs LF (omega arith) ∙ ap (λ b. b ∷ drop 1 cs) c
    ∙ ap (λ x. code_of Ring ∷ x)
    (by_parts 1 2 cs ∙ ap (λ x. x ++ drop 3 cs) r.0
    ∙ ap (λ x. field 2 (pos p.ring) ++ x)
    (by_parts 3 5 cs ∙ ap (λ x. x ++ drop 8 cs) k.0
    ∙ ap (λ x. field 5 (pos p.cells) ++ x)
    (by_parts 8 4 cs ∙ ap (λ x. x ++ drop 12 cs) w.0 ∙ ap (λ x. field 4 (pos p.workers) ++ x) (sym (last_part 12 2 cs n) ∙ i.0)))) in
    (all ∙ ap (λ a. F a p.items) (ring_numbered p.ring r.1) ∙ ap (λ b. F (ring_number (ring_choice p.ring)) b) (item_numbered p.items i.1) ∙ ap header_columns (sym p.is), subst HeaderFits (sym p.is) (k.1, w.1))

-- a line that says a header is the header's own
pub header_only : (l : Line) (h : Header) → header_line l ≡ Ok h → (l.columns ≡ header_columns h) × (l.ended ≡ true) × HeaderFits h
header_only l h e = go (letter_in l) refl where
  at_line_ok : (r : Result Header LineFault) → at_line r 1 ≡ Ok h → r ≡ Ok h
  at_line_ok (Ok p) q = let same : p ≡ h = cc in ap Ok same
  at_line_ok (Err f) q = cc

  opened : letter_in l ≡ Some Ring → header_opened l (Ok tt) ≡ Ok h → (l.columns ≡ header_columns h) × (l.ended ≡ true) × HeaderFits h
  opened is q =
      elim (cases_Bool (whole 14 l)) [
        | inl w ↦
            let p = and_parts (eqb (length l.columns) 14) l.ended w in
            let c = columns_only l.columns h (letter_code (get_or l.columns 0 LF) Ring is) (eqb-true (length l.columns) 14 p.0) (at_line_ok (header_reading l.columns) (sym (cond-true (whole 14 l) _ _ w) ∙ q)) in
            (c.0, p.1, c.1)
        | inr w ↦ let cut = sym (cond-false (whole 14 l) _ _ w) ∙ q in cc
      ]

  go : (x : Option Letter) → letter_in l ≡ x → (l.columns ≡ header_columns h) × (l.ended ≡ true) × HeaderFits h
  go None is = let q = ap (λ x. header_opened l (first_letter x)) (sym is) ∙ e in cc
  go (Some (Order k)) is = let q = ap (λ x. header_opened l (first_letter x)) (sym is) ∙ e in cc
  go (Some Ring) is = opened is (ap (λ x. header_opened l (first_letter x)) (sym is) ∙ e)

pub header_printed : (h : Header) → Printed (header_columns h)
header_printed h = (
  (omega arith, omega arith),
  All-append _ _ _ (printed_field 2 (pos (ring_number h.ring)))
      (All-append _ _ _ (printed_field 5 (pos h.cells)) (All-append _ _ _ (printed_field 4 (pos h.workers)) (printed_field 2 (pos (item_number h.items))))),
)

-- the header's own line says the header
pub header_back : (h : Header) → HeaderFits h → header_line (record { columns = header_columns h; ended = true }) ≡ Ok h
header_back h fits =
    let r = field 2 (pos (ring_number h.ring)) in
    let c = field 5 (pos h.cells) in
    let w = field 4 (pos h.workers) in
    let i = field 2 (pos (item_number h.items)) in
    let rwide : length r ≡ 2 = wide_field 2 2 (ring_number h.ring) (omega arith) (omega arith) (ring_chosen h.ring).1.1 in
    let cw : length c ≡ 5 = wide_field 5 1024 h.cells (omega arith) (omega arith) fits.0.1 in
    let ww : length w ≡ 4 = wide_field 4 64 h.workers (omega arith) (omega arith) fits.1.1 in
    let iw : length i ≡ 2 = wide_field 2 2 (item_number h.items) (omega arith) (omega arith) (item_chosen h.items).1.1 in
    let line = code_of Ring ∷ (r ++ (c ++ (w ++ i))) in
    let long : length line ≡ 14 = omega (arith, length-append r (c ++ (w ++ i)), length-append c (w ++ i), length-append w i) in
    let d3 : drop 3 line ≡ c ++ (w ++ i) = drop_at r (c ++ (w ++ i)) 2 rwide in
    let d8 : drop 8 line ≡ w ++ i = sym (drop-drop 5 3 line) ∙ ap (drop 5) d3 ∙ drop_at c (w ++ i) 5 cw in
    let d12 : drop 12 line ≡ i = sym (drop-drop 4 8 line) ∙ ap (drop 4) d8 ∙ drop_at w i 4 ww in
    cond-true (whole 14 (record { columns = line; ended = true })) _ _ (and_from (eqb (length line) 14) true (eq-eqb _ 14 long) refl)
    ∙ ap (λ x. at_line (header_from x (field_reading 4 8 1 1024 line) (field_reading 9 12 1 64 line) (field_reading 13 14 1 2 line)) 1)
    (field_back 2 2 1 2 (ring_number h.ring) (take 2 (r ++ (c ++ (w ++ i)))) (omega arith) (omega arith) (ring_chosen h.ring).1 (take_at r (c ++ (w ++ i)) 2 rwide))
    ∙ ap (λ x. at_line (header_from (Ok (ring_number h.ring)) x (field_reading 9 12 1 64 line) (field_reading 13 14 1 2 line)) 1)
    (field_back 4 5 1 1024 h.cells (take 5 (drop 3 line)) (omega arith) (omega arith) fits.0 (ap (take 5) d3 ∙ take_at c (w ++ i) 5 cw))
    ∙ ap (λ x. at_line (header_from (Ok (ring_number h.ring)) (Ok h.cells) x (field_reading 13 14 1 2 line)) 1)
    (field_back 9 4 1 64 h.workers (take 4 (drop 8 line)) (omega arith) (omega arith) fits.1 (ap (take 4) d8 ∙ take_at w i 4 ww))
    ∙ ap (λ x. at_line (header_from (Ok (ring_number h.ring)) (Ok h.cells) (Ok h.workers) x) 1)
    (field_back 13 2 1 2 (item_number h.items) (take 2 (drop 12 line)) (omega arith) (omega arith) (item_chosen h.items).1 (ap (take 2) d12 ∙ take_all 2 i (omega arith)))
    ∙ ap (λ x. Ok (record { ring = x; cells = h.cells; workers = h.workers; items = item_choice (item_number h.items) })) (ring_chosen h.ring).0
    ∙ ap (λ x. Ok (record { ring = h.ring; cells = h.cells; workers = h.workers; items = x })) (item_chosen h.items).0
