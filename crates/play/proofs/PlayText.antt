-- Bytes without fault are the text of the play that they say, and that text is read as the play.
use Rattle.std.proofs.Common.{◌≡◌, ℕ, suc, ◌≤◌, true, eqb, ltb, List, [], ◌∷◌, ◌++◌, length, Ok, Err, Result, sym, refl, ap, ◌∙◌, subst, inl, inr, append_assoc, arith}
use Rattle.std.proofs.lemmas.Bool.{cond-true, cond-false, cases_Bool, ne_eqb, le-ltb}
use Rattle.play.specs.declared.fault.PlayFault.{PlayFault}
use Rattle.play.specs.declared.header.Header.{Header}
use Rattle.play.specs.declared.header.ItemChoice.{ItemChoice}
use Rattle.play.specs.Lines.{LF, Line, in_front, lines_of}
use Rattle.play.specs.Orders.{PlainOrder}
use Rattle.play.specs.Play.{PlainPlay, order_line, before, order_lines, with_orders, header_line, play_from, play_lines, longest, play_reading}
use Rattle.play.specs.Text.{OrdersFit, PlayFits, order_columns, order_text, orders_text, header_columns, header_text, play_text, TextLaw}
use Rattle.play.proofs.Lines.{end_text, line_text, lines_text, text_of_lines}
use Rattle.play.proofs.OrderText.{Printed, ItemLaws, line_only, line_back, order_printed}
use Rattle.play.proofs.HeaderText.{header_only, header_back, header_printed}

-- printed columns with an LF behind them are the first line
pub printed_line : (cs rest : List ℕ) → Printed cs → lines_of (cs ++ (LF ∷ rest)) ≡ record { columns = cs; ended = true } ∷ lines_of rest
printed_line [] rest p = refl
printed_line (c ∷ cs) rest p =
    cond-false (eqb c LF) _ _ (ne_eqb c LF (λ e. omega (arith, p.0.0))) ∙ ap (in_front c) (printed_line cs rest p.1)

pub text_line : (cs rest : List ℕ) → Printed cs → lines_of ((cs ++ (LF ∷ [])) ++ rest) ≡ record { columns = cs; ended = true } ∷ lines_of rest
text_line cs rest p = ap lines_of (append_assoc cs (LF ∷ []) rest) ∙ printed_line cs rest p

own_text : (l : Line) (cs : List ℕ) → l.columns ≡ cs → l.ended ≡ true → line_text l ≡ cs ++ (LF ∷ [])
own_text l cs c e = ap (λ x. x ++ end_text l.ended) c ∙ ap (λ b. cs ++ end_text b) e

module _ (laws : ItemLaws) (items : ItemChoice) where
  pub orders_only : (n : ℕ) (ls : List Line) (os : List PlainOrder) → order_lines items n ls ≡ Ok os → (lines_text ls ≡ orders_text os) × OrdersFit items os
  orders_only n [] os e = let none : [] ≡ os = cc in (ap orders_text none, subst (OrdersFit items) none tt)
  orders_only n (l ∷ ls) os e = go (order_line items n l) (order_lines items (suc n) ls) refl refl e (orders_only (suc n) ls) where
    go : (r : Result PlainOrder PlayFault) (rs : Result (List PlainOrder) PlayFault) → order_line items n l ≡ r → order_lines items (suc n) ls ≡ rs → before r rs ≡ Ok os
        → ((more : List PlainOrder) → order_lines items (suc n) ls ≡ Ok more → (lines_text ls ≡ orders_text more) × OrdersFit items more) → (lines_text (l ∷ ls) ≡ orders_text os) × OrdersFit items os
    go (Err f) rs p q h others = cc
    go (Ok o) (Err f) p q h others = cc
    go (Ok o) (Ok more) p q h others =
        let is : o ∷ more ≡ os = cc in
        let first = line_only laws items n l o p in
        let rest = others more q in
        (ap (λ x. x ++ lines_text ls) (own_text l (order_columns o) first.0 first.1) ∙ ap (λ x. order_text o ++ x) rest.0 ∙ ap orders_text is, subst (OrdersFit items) is (first.2, rest.1))

  pub orders_back : (n : ℕ) (os : List PlainOrder) → OrdersFit items os → order_lines items n (lines_of (orders_text os)) ≡ Ok os
  orders_back n [] fits = refl
  orders_back n (o ∷ os) fits =
      ap (order_lines items n) (text_line (order_columns o) (orders_text os) (order_printed laws items o fits.0))
      ∙ ap (λ r. before r (order_lines items (suc n) (lines_of (orders_text os)))) (line_back laws items n o fits.0)
      ∙ ap (before (Ok o)) (orders_back (suc n) os fits.1)

module _ (laws : ItemLaws) where
  lines_only : (ls : List Line) (p : PlainPlay) → play_lines ls ≡ Ok p → (lines_text ls ≡ play_text p) × PlayFits p
  lines_only [] p e = cc
  lines_only (l ∷ ls) p e = go (header_line l) refl e where
    behind : (h : Header) (rs : Result (List PlainOrder) PlayFault) → header_line l ≡ Ok h → order_lines h.items 2 ls ≡ rs → with_orders h rs ≡ Ok p → (lines_text (l ∷ ls) ≡ play_text p) × PlayFits p
    behind h (Err f) hd q e = cc
    behind h (Ok os) hd q e =
        let is : record { header = h; orders = os } ≡ p = cc in
        let first = header_only l h hd in
        let rest = orders_only laws h.items 2 ls os q in
        (ap (λ x. x ++ lines_text ls) (own_text l (header_columns h) first.0 first.1) ∙ ap (λ x. header_text h ++ x) rest.0 ∙ ap play_text is, subst PlayFits is (first.2, rest.1))

    go : (r : Result Header PlayFault) → header_line l ≡ r → play_from r ls ≡ Ok p → (lines_text (l ∷ ls) ≡ play_text p) × PlayFits p
    go (Err f) hd e = cc
    go (Ok h) hd e = behind h (order_lines h.items 2 ls) hd refl e

  pub play_only : (bytes : List ℕ) (p : PlainPlay) → play_reading bytes ≡ Ok p → (bytes ≡ play_text p) × PlayFits p
  play_only bytes p e =
      elim (cases_Bool (ltb longest (length bytes))) [
        | inl long ↦ let h = sym (cond-true (ltb longest (length bytes)) _ _ long) ∙ e in cc
        | inr short ↦
            let r = lines_only (lines_of bytes) p (sym (cond-false (ltb longest (length bytes)) _ _ short) ∙ e) in
            (sym (text_of_lines bytes) ∙ r.0, r.1)
      ]

  pub play_back : (p : PlainPlay) → PlayFits p → length (play_text p) ≤ longest → play_reading (play_text p) ≡ Ok p
  play_back p fits short =
      cond-false (ltb longest (length (play_text p))) _ _ (le-ltb longest (length (play_text p)) short)
      ∙ ap play_lines (text_line (header_columns p.header) (orders_text p.orders) (header_printed p.header))
      ∙ ap (λ r. play_from r (lines_of (orders_text p.orders))) (header_back p.header fits.0)
      ∙ ap (with_orders p.header) (orders_back laws p.header.items 2 p.orders fits.1)

  pub text_law : (bytes : List ℕ) → TextLaw bytes
  text_law bytes =
      record {
        written = play_only bytes;
        read = λ p fits e short. ap play_reading e ∙ play_back p fits (subst (λ bs. length bs ≤ longest) e short);
      }
