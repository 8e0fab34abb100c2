-- The order whose text stands in front of some bytes: there is one just where a line is read as one.
use Rattle.std.proofs.Common.{◌≡◌, ℕ, ◌+◌, ◌<◌, true, List, [], ◌∷◌, ◌++◌, length, get_or, take, drop, Some, None, Ok, Option, sym, refl, ap, ◌∙◌, append_assoc, arith}
use Rattle.std.proofs.lemmas.List.{append_cancel_left, length-append, length-take-le, get_or_append_left, get_or_at, get_or_default, get_or-take, take_at, take-append-drop, drop_more}
use Rattle.play.specs.declared.header.ItemChoice.{ItemChoice}
use Rattle.play.specs.declared.letter.OrderLetter.{OrderLetter}
use Rattle.play.specs.declared.letter.OrderLetter.TheVariants.{Enqueue, Dequeue, Steps}
use Rattle.play.specs.declared.letter.Letter.{Letter}
use Rattle.play.specs.declared.letter.Letter.TheVariants.{Ring, Order}
use Rattle.play.specs.declared.next.Next.{Next}
use Rattle.play.specs.Lines.{LF, Line, lines_of}
use Rattle.play.specs.Letters.{letter_of, code_of, width_of}
use Rattle.play.specs.Orders.{PlainOrder, plain, order_reading}
use Rattle.play.specs.Play.{order_letter, order_line}
use Rattle.play.specs.Promise.{FirstOrder}
use Rattle.play.specs.Text.{OrderFits, OrdersFit, order_columns, order_text, orders_text}
use Rattle.play.proofs.Fields.{letter_code}
use Rattle.play.proofs.OrderText.{ItemLaws, Shape, order_shape, order_printed, columns_only, line_back, code_letter}
use Rattle.play.proofs.PlayText.{text_line}

letter_opened : (n : ℕ) (x : Option Letter) (k : OrderLetter) → order_letter n x ≡ Ok k → x ≡ Some (Order k)
letter_opened n None k e = cc
letter_opened n (Some Ring) k e = cc
letter_opened n (Some (Order j)) k e = let same : j ≡ k = cc in ap (λ x. Some (Order x)) same

width_some : (k : OrderLetter) → 0 < width_of (Order k)
width_some Enqueue = omega arith
width_some Dequeue = omega arith
width_some Steps = omega arith

module _ (laws : ItemLaws) (items : ItemChoice) (rest : List ℕ) where
  -- bytes with an order's text in front
  module _ (o : PlainOrder) (more : List ℕ) (fits : OrderFits items o) (front : rest ≡ order_text o ++ more) where
    front_columns : rest ≡ order_columns o ++ (LF ∷ more)
    front_columns = front ∙ append_assoc (order_columns o) (LF ∷ []) more

    front_first : (s : Shape laws items o) → get_or rest 0 0 ≡ code_of (Order s.letter)
    front_first s =
        let some : 0 < length (order_columns o) = omega (arith, s.wide, width_some s.letter) in
        ap (λ x. get_or x 0 0) front_columns ∙ get_or_append_left (order_columns o) (LF ∷ more) 0 0 some ∙ get_or_default (order_columns o) 0 0 LF some ∙ s.code

    -- the letter is the order's
    front_letter : (n : ℕ) (k : OrderLetter) → order_letter n (letter_of (get_or rest 0 0)) ≡ Ok k → (s : Shape laws items o) → s.letter ≡ k
    front_letter n k opens s =
        let a = letter_opened n (letter_of (get_or rest 0 0)) k opens in
        let b = ap letter_of (front_first s) ∙ code_letter s.letter in
        cc

    module _ (n : ℕ) (k : OrderLetter) (opens : order_letter n (letter_of (get_or rest 0 0)) ≡ Ok k) where
      shape : Shape laws items o
      shape = order_shape laws items o fits

      wide : length (order_columns o) ≡ width_of (Order k)
      wide = shape.wide ∙ ap (λ x. width_of (Order x)) (front_letter n k opens shape)

      pub front_room : width_of (Order k) < length rest
      front_room = omega (arith, wide, ap length front_columns, length-append (order_columns o) (LF ∷ more))

      pub front_ends : get_or rest (width_of (Order k)) 0 ≡ LF
      front_ends = ap (λ x. get_or x (width_of (Order k)) 0) front_columns ∙ get_or_at (order_columns o) LF more 0 (width_of (Order k)) wide

      pub front_read : order_reading items k (take (width_of (Order k)) rest) ≡ Ok o
      front_read =
          ap (λ x. order_reading items k (take (width_of (Order k)) x)) front_columns
          ∙ ap (order_reading items k) (take_at (order_columns o) (LF ∷ more) (width_of (Order k)) wide)
          ∙ ap (λ x. order_reading items x (order_columns o)) (sym (front_letter n k opens shape))
          ∙ shape.read

  -- a line that is read as an order is that order's text
  pub read_front : (n w : ℕ) (k : OrderLetter) (o : PlainOrder) → order_letter n (letter_of (get_or rest 0 0)) ≡ Ok k → w ≡ width_of (Order k) → w < length rest → get_or rest w 0 ≡ LF
      → order_reading items k (take w rest) ≡ Ok o → OrderFits items o × (rest ≡ order_text o ++ drop (w + 1) rest)
  read_front n w k o opens wide room ends read =
      let len : length (take w rest) ≡ w = length-take-le w rest (omega arith) in
      let some : 0 < length (take w rest) = omega (arith, width_some k) in
      let code : get_or (take w rest) 0 LF ≡ code_of (Order k) =
      get_or_default (take w rest) 0 LF 0 some ∙ get_or-take w rest 0 0 (omega (arith, width_some k)) ∙ letter_code (get_or rest 0 0) (Order k) (letter_opened n (letter_of (get_or rest 0 0)) k opens) in
      let c = columns_only laws items k (take w rest) o code (len ∙ wide) read in (
        c.1,
        sym (take-append-drop w rest) ∙ ap (λ x. x ++ drop w rest) c.0
            ∙ ap (λ x. order_columns o ++ x) (drop_more rest w 0 room ∙ ap (λ b. b ∷ drop (w + 1) rest) ends)
            ∙ sym (append_assoc (order_columns o) (LF ∷ []) (drop (w + 1) rest)),
      )

module _ (laws : ItemLaws) (items : ItemChoice) where
  -- two orders' texts in front of the same bytes are one
  pub one_front : (o p : PlainOrder) (more others : List ℕ) → OrderFits items o → OrderFits items p → order_text o ++ more ≡ order_text p ++ others → (o ≡ p) × (more ≡ others)
  one_front o p more others f g e =
      let a = text_line (order_columns o) more (order_printed laws items o f) in
      let b = text_line (order_columns p) others (order_printed laws items p g) in
      let lines = ap lines_of e in
      let same : ◌≡◌ {A = Line} (record { columns = order_columns o; ended = true }) (record { columns = order_columns p; ended = true }) = cc in
      let x = line_back laws items 0 o f in
      let y = line_back laws items 0 p g in
      let z = ap (order_line items 0) same in
      let is : o ≡ p = cc in
      (is, append_cancel_left (order_text p) more others (ap (λ q. order_text q ++ more) (sym is) ∙ e))

  -- what a loop over the orders goes by
  pub record Follows (n : Next) (os : List PlainOrder) : Type 0 where
    pub others : List PlainOrder
    pub are : os ≡ plain n.order ∷ others
    pub text : n.rest.now ≡ orders_text others
    pub fit : OrdersFit items others

  pub next_some : (rest : List ℕ) (n : Next) (os : List PlainOrder) → FirstOrder items rest (Some n) → rest ≡ orders_text os → OrdersFit items os → Follows n os
  next_some rest n [] h e f =
      let long = ap length (sym e ∙ h.1) in
      absurd (omega (arith, long, length-append (order_text (plain n.order)) n.rest.now, length-append (order_columns (plain n.order)) (LF ∷ [])))
  next_some rest n (o ∷ os) h e f =
      let one = one_front o (plain n.order) (orders_text os) n.rest.now f.0 h.0 (sym e ∙ h.1) in
      record { others = os; are = ap (λ x. x ∷ os) one.0; text = sym one.1; fit = f.1 }

  pub next_none : (rest : List ℕ) (os : List PlainOrder) → FirstOrder items rest None → rest ≡ orders_text os → OrdersFit items os → os ≡ []
  next_none rest [] h e f = refl
  next_none rest (o ∷ os) h e f = absurd (h o (orders_text os) f.0 e)
