-- A line without fault is the text of what it says, and such a text is read as what it says.
use Rattle.std.proofs.Common.{◌≡◌, ℕ, ◌≤◌, true, eqb, List, ◌∷◌, ◌++◌, length, get_or, take, drop, pos, Some, None, Ok, Err, Option, Result, sym, refl, ap, ◌∙◌, subst, inl, inr, arith}
use Rattle.std.specs.List.{AllByRecursion}
use Rattle.std.proofs.ByRecursion.{All-append}
use Rattle.std.proofs.lemmas.List.{length-drop, length-append, take_all, take_at, drop_at}
use Rattle.std.proofs.lemmas.Bool.{cond-true, cond-false, cases_Bool, eq-eqb, eqb-true, and_from, and_parts}
use Rattle.columns.specs.declared.fault.ColumnFault.{ColumnFault}
use Rattle.columns.specs.Number.{field}
use Rattle.columns.proofs.Laws.{printed_field}
use Rattle.play.specs.declared.fault.LineFault.{LineFault}
use Rattle.play.specs.declared.header.ItemChoice.{ItemChoice}
use Rattle.play.specs.declared.letter.OrderLetter.{OrderLetter}
use Rattle.play.specs.declared.letter.OrderLetter.TheVariants.{Enqueue, Dequeue, Steps}
use Rattle.play.specs.declared.letter.Letter.{Letter}
use Rattle.play.specs.declared.letter.Letter.TheVariants.{Ring, Order}
use Rattle.play.specs.Lines.{LF, Line}
use Rattle.play.specs.Letters.{letter_of, code_of, width_of}
use Rattle.play.specs.Faults.{at_line}
use Rattle.play.specs.Orders.{PlainOrder, enqueue, dequeue, steps, field_reading, item_check, enqueue_from, dequeue_from, steps_from, order_reading}
use Rattle.play.specs.Play.{order_letter, letter_in, whole, order_opened, order_line}
use Rattle.play.specs.Text.{ItemColumns, OrderFits, order_columns}
use Rattle.play.proofs.Fields.{letter_code, field_only, field_back, wide_field, by_first, by_parts, last_part}

abbrev pub Printed : List ℕ → Type 0
Printed cs = AllByRecursion (λ b. (32 ≤ b) × (b ≤ 126)) cs

-- what the item kinds say of their columns
pub record ItemLaws : Type 0 where
  pub only : (items : ItemChoice) (cs : List ℕ) → length cs ≡ 15 → item_check items cs ≡ Ok tt → ItemColumns items cs
  pub back : (items : ItemChoice) (cs : List ℕ) → ItemColumns items cs → item_check items cs ≡ Ok tt
  pub wide : (items : ItemChoice) (cs : List ℕ) → ItemColumns items cs → length cs ≡ 15
  pub printed : (items : ItemChoice) (cs : List ℕ) → ItemColumns items cs → Printed cs

-- the parts of an order that was read
pub record Enqueued (a : Result ℕ ColumnFault) (b : Result (Unit {0}) ColumnFault) (cs : List ℕ) (o : PlainOrder) : Type 0 where
  pub worker : ℕ
  pub worker_read : a ≡ Ok worker
  pub item_read : b ≡ Ok tt
  pub is : o ≡ enqueue (record { 0 = worker }) cs

enqueued : (a : Result ℕ ColumnFault) (b : Result (Unit {0}) ColumnFault) (cs : List ℕ) (o : PlainOrder) → enqueue_from a b cs ≡ Ok o → Enqueued a b cs o
enqueued (Err f) b cs o e = cc
enqueued (Ok w) (Err f) cs o e = cc
enqueued (Ok w) (Ok u) cs o e = let is : o ≡ enqueue (record { 0 = w }) cs = cc in record { worker = w; worker_read = refl; item_read = refl; is = is }

dequeued : (a : Result ℕ ColumnFault) (o : PlainOrder) → dequeue_from a ≡ Ok o → (w : ℕ) × (a ≡ Ok w) × (o ≡ dequeue (record { 0 = w }))
dequeued (Err f) o e = cc
dequeued (Ok w) o e = let is : o ≡ dequeue (record { 0 = w }) = cc in (w, refl, is)

stepped : (a b : Result ℕ ColumnFault) (o : PlainOrder) → steps_from a b ≡ Ok o → (w : ℕ) × (n : ℕ) × (a ≡ Ok w) × (b ≡ Ok n) × (o ≡ steps (record { 0 = w }) n)
stepped (Err f) b o e = cc
stepped (Ok w) (Err f) o e = cc
stepped (Ok w) (Ok n) o e = let is : o ≡ steps (record { 0 = w }) n = cc in (w, n, refl, refl, is)

pub code_letter : (k : OrderLetter) → letter_of (code_of (Order k)) ≡ Some (Order k)
code_letter Enqueue = refl
code_letter Dequeue = refl
code_letter Steps = refl

module _ (laws : ItemLaws) (items : ItemChoice) where
  -- the columns of an order that was read are the order's own
  pub columns_only : (k : OrderLetter) (cs : List ℕ) (o : PlainOrder) → get_or cs 0 LF ≡ code_of (Order k) → length cs ≡ width_of (Order k) → order_reading items k cs ≡ Ok o
      → (cs ≡ order_columns o) × OrderFits items o
  columns_only Enqueue cs o c n e =
      let r = enqueued (field_reading 2 5 1 64 cs) (item_check items (take 15 (drop 5 cs))) (take 15 (drop 5 cs)) o e in
      let w = field_only 2 4 1 64 cs r.worker r.worker_read (omega arith) in
      let rest = last_part 5 15 cs n in
      let all : cs ≡ code_of (Order Enqueue) ∷ (field 4 (pos r.worker) ++ take 15 (drop 5 cs)) =
      by_first cs LF (omega arith) ∙ ap (λ b. b ∷ drop 1 cs) c
      ∙ ap (λ x. code_of (Order Enqueue) ∷ x) (by_parts 1 4 cs ∙ ap (λ x. x ++ drop 5 cs) w.0 ∙ ap (λ x. field 4 (pos r.worker) ++ x) (sym rest)) in
      let fits = laws.only items (take 15 (drop 5 cs)) (ap length rest ∙ omega (arith, length-drop 5 cs)) r.item_read in
      (all ∙ ap order_columns (sym r.is), subst (OrderFits items) (sym r.is) (w.1, fits))
  columns_only Dequeue cs o c n e =
      let r = dequeued (field_reading 2 5 1 64 cs) o e in
      let w = field_only 2 4 1 64 cs r.0 r.1 (omega arith) in
      let all : cs ≡ code_of (Order Dequeue) ∷ field 4 (pos r.0) =
      by_first cs LF (omega arith) ∙ ap (λ b. b ∷ drop 1 cs) c ∙ ap (λ x. code_of (Order Dequeue) ∷ x) (sym (last_part 1 4 cs n) ∙ w.0) in
      (all ∙ ap order_columns (sym r.2), subst (OrderFits items) (sym r.2) w.1)
  columns_only Steps cs o c n e =
      let r = stepped (field_reading 2 5 1 64 cs) (field_reading 6 9 1 9999 cs) o e in
      let w = field_only 2 4 1 64 cs r.0 r.2 (omega arith) in
      let m = field_only 6 4 1 9999 cs r.1 r.3 (omega arith) in
      let all : cs ≡ code_of (Order Steps) ∷ (field 4 (pos r.0) ++ field 4 (pos r.1)) =
      by_first cs LF (omega arith) ∙ ap (λ b. b ∷ drop 1 cs) c
      ∙ ap (λ x. code_of (Order Steps) ∷ x) (by_parts 1 4 cs ∙ ap (λ x. x ++ drop 5 cs) w.0 ∙ ap (λ x. field 4 (pos r.0) ++ x) (sym (last_part 5 4 cs n) ∙ m.0)) in
      (all ∙ ap order_columns (sym r.4), subst (OrderFits items) (sym r.4) (w.1, m.1))

  -- a line that says an order is the order's own
  pub line_only : (n : ℕ) (l : Line) (o : PlainOrder) → order_line items n l ≡ Ok o → (l.columns ≡ order_columns o) × (l.ended ≡ true) × OrderFits items o
  line_only n l o e = go (letter_in l) refl where
    at_line_ok : (r : Result PlainOrder LineFault) → at_line r n ≡ Ok o → r ≡ Ok o
    at_line_ok (Ok p) h = let same : p ≡ o = cc in ap Ok same
    at_line_ok (Err f) h = cc

    opened : (k : OrderLetter) → letter_in l ≡ Some (Order k) → order_opened items n l (Ok k) ≡ Ok o → (l.columns ≡ order_columns o) × (l.ended ≡ true) × OrderFits items o
    opened k is h =
        elim (cases_Bool (whole (width_of (Order k)) l)) [
          | inl w ↦
              let p = and_parts (eqb (length l.columns) (width_of (Order k))) l.ended w in
              let read = at_line_ok (order_reading items k l.columns) (sym (cond-true (whole (width_of (Order k)) l) _ _ w) ∙ h) in
              let c = columns_only k l.columns o (letter_code (get_or l.columns 0 LF) (Order k) is) (eqb-true (length l.columns) (width_of (Order k)) p.0) read in
              (c.0, p.1, c.1)
          | inr w ↦ let cut = sym (cond-false (whole (width_of (Order k)) l) _ _ w) ∙ h in cc
        ]

    go : (x : Option Letter) → letter_in l ≡ x → (l.columns ≡ order_columns o) × (l.ended ≡ true) × OrderFits items o
    go None is = let h = ap (λ x. order_opened items n l (order_letter n x)) (sym is) ∙ e in cc
    go (Some Ring) is = let h = ap (λ x. order_opened items n l (order_letter n x)) (sym is) ∙ e in cc
    go (Some (Order k)) is = opened k is (ap (λ x. order_opened items n l (order_letter n x)) (sym is) ∙ e)

  pub order_printed : (o : PlainOrder) → OrderFits items o → Printed (order_columns o)
  order_printed (enqueue w cs) fits = ((omega arith, omega arith), All-append _ _ _ (printed_field 4 (pos w.0)) (laws.printed items cs fits.1))
  order_printed (dequeue w) fits = ((omega arith, omega arith), printed_field 4 (pos w.0))
  order_printed (steps w n) fits = ((omega arith, omega arith), All-append _ _ _ (printed_field 4 (pos w.0)) (printed_field 4 (pos n)))

  -- an order's own columns: the letter, the length, and what they are read as
  pub record Shape (o : PlainOrder) : Type 0 where
    pub letter : OrderLetter
    pub code : get_or (order_columns o) 0 LF ≡ code_of (Order letter)
    pub wide : length (order_columns o) ≡ width_of (Order letter)
    pub read : order_reading items letter (order_columns o) ≡ Ok o

  pub order_shape : (o : PlainOrder) → OrderFits items o → Shape o
  order_shape (enqueue w cs) fits =
      let f = field 4 (pos w.0) in
      let wide : length f ≡ 4 = wide_field 4 64 w.0 (omega arith) (omega arith) fits.0.1 in
      let behind : take 15 (drop 4 (f ++ cs)) ≡ cs = ap (take 15) (drop_at f cs 4 wide) ∙ take_all 15 cs (omega (arith, laws.wide items cs fits.1)) in
      record {
        letter = Enqueue;
        code = refl;
        wide = omega (arith, length-append f cs, laws.wide items cs fits.1);
        read = ap (λ a. enqueue_from a (item_check items (take 15 (drop 4 (f ++ cs)))) (take 15 (drop 4 (f ++ cs)))) (field_back 2 4 1 64 w.0 (take 4 (f ++ cs)) (omega arith) (omega arith) fits.0 (take_at f cs 4 wide))
            ∙ ap (λ x. enqueue_from (Ok w.0) (item_check items x) x) behind
            ∙ ap (λ b. enqueue_from (Ok w.0) b cs) (laws.back items cs fits.1);
      }
  order_shape (dequeue w) fits =
      let f = field 4 (pos w.0) in
      let wide : length f ≡ 4 = wide_field 4 64 w.0 (omega arith) (omega arith) fits.1 in
      record {
        letter = Dequeue;
        code = refl;
        wide = omega arith;
        read = ap dequeue_from (field_back 2 4 1 64 w.0 (take 4 f) (omega arith) (omega arith) fits (take_all 4 f (omega arith)));
      }
  order_shape (steps w m) fits =
      let f = field 4 (pos w.0) in
      let g = field 4 (pos m) in
      let wide : length f ≡ 4 = wide_field 4 64 w.0 (omega arith) (omega arith) fits.0.1 in
      let wide' : length g ≡ 4 = wide_field 4 9999 m (omega arith) (omega arith) fits.1.1 in
      record {
        letter = Steps;
        code = refl;
        wide = omega (arith, length-append f g);
        read = ap (λ a. steps_from a (field_reading 6 9 1 9999 (code_of (Order Steps) ∷ (f ++ g)))) (field_back 2 4 1 64 w.0 (take 4 (f ++ g)) (omega arith) (omega arith) fits.0 (take_at f g 4 wide))
            ∙ ap (steps_from (Ok w.0)) (field_back 6 4 1 9999 m (take 4 (drop 4 (f ++ g))) (omega arith) (omega arith) fits.1 (ap (take 4) (drop_at f g 4 wide) ∙ take_all 4 g (omega arith)));
      }

  -- the order's own line says the order
  pub line_back : (n : ℕ) (o : PlainOrder) → OrderFits items o → order_line items n (record { columns = order_columns o; ended = true }) ≡ Ok o
  line_back n o fits =
      let s = order_shape o fits in
      let l : Line = record { columns = order_columns o; ended = true } in
      ap (λ c. order_opened items n l (order_letter n (letter_of c))) s.code
      ∙ ap (λ x. order_opened items n l (order_letter n x)) (code_letter s.letter)
      ∙ cond-true (whole (width_of (Order s.letter)) l) _ _ (and_from (eqb (length (order_columns o)) (width_of (Order s.letter))) true (eq-eqb _ _ s.wide) refl)
      ∙ ap (λ r. at_line r n) s.read
