-- When the first line of what is left of a body is not whole, by the places of the body.
use Rattle.std.proofs.Common.{◌≡◌, ℕ, suc, ◌+◌, ◌-◌, ◌<◌, ◌≤◌, true, false, eqb, List, [], ◌∷◌, length, get_or, take, drop, sym, refl, ap, ◌∙◌, subst, inl, inr, arith}
use Rattle.std.proofs.lemmas.List.{get_or-drop, length-drop, length-take-le}
use Rattle.std.proofs.lemmas.Bool.{ne_eqb, and_left, and_right, cases_lt}
use Rattle.play.specs.Lines.{LF, Line, lines_of}
use Rattle.play.specs.Play.{whole}
use Rattle.play.proofs.Lines.{Unbroken, Leads, first_ends, first_open, first_long}

-- no LF stands from `at` up to `end`
abbrev pub Clear : List ℕ → ℕ → ℕ → Type 0
Clear body at end = (k : ℕ) → at ≤ k → k < end → get_or body k 0 ≡ LF → ⊥

module _ (body : List ℕ) (at : ℕ) where
  pub byte_at : (k : ℕ) → get_or (drop at body) k 0 ≡ get_or body (at + k) 0
  byte_at k = get_or-drop at body k 0

  pub first_byte : get_or (drop at body) 0 0 ≡ get_or body at 0
  first_byte = let z : at + 0 ≡ at = omega arith in byte_at 0 ∙ ap (λ k. get_or body k 0) z

  pub left : length (drop at body) ≡ length body - at
  left = length-drop at body

  pub unbroken : (n : ℕ) → Clear body at (at + n) → Unbroken n (drop at body)
  unbroken n c k h e = c (at + k) (omega arith) (omega arith) (sym (byte_at k) ∙ e)

  -- the body ends before the line does
  pub stops : (n w : ℕ) → 0 < n → at + n ≡ length body → Clear body at (at + n) → Leads (λ l. whole w l ≡ false) (lines_of (drop at body))
  stops n w p h c =
      let len : length (drop at body) ≡ n = omega (arith, left) in
      let u : Unbroken (length (drop at body)) (drop at body) = subst (λ m. Unbroken m (drop at body)) (sym len) (unbroken n c) in
      subst (Leads (λ l. whole w l ≡ false)) (sym (first_open (drop at body) (omega (arith, left)) u)) (and_right (eqb (length (drop at body)) w) false refl)

  -- an LF stands before the line's last column
  pub breaks : (n w : ℕ) → n < w → at + n < length body → Clear body at (at + n) → get_or body (at + n) 0 ≡ LF → Leads (λ l. whole w l ≡ false) (lines_of (drop at body))
  breaks n w p h c e =
      let len : length (take n (drop at body)) ≡ n = length-take-le n (drop at body) (omega (arith, left)) in
      let apart : length (take n (drop at body)) ≡ w → ⊥ = λ q. omega arith in
      subst (Leads (λ l. whole w l ≡ false)) (sym (first_ends n (drop at body) (omega (arith, left)) (unbroken n c) (byte_at n ∙ e)))
      (and_left (eqb (length (take n (drop at body))) w) true (ne_eqb (length (take n (drop at body))) w apart))

  -- the line goes on behind its last column
  pub runs_on : (w : ℕ) → at + w < length body → Clear body at (at + w) → (get_or body (at + w) 0 ≡ LF → ⊥) → Leads (λ l. whole w l ≡ false) (lines_of (drop at body))
  runs_on w h c e = longer (lines_of (drop at body)) (first_long w (drop at body) (omega (arith, left)) u) where
    u : Unbroken (suc w) (drop at body)
    u k b q = elim (cases_lt k w) [ inl s ↦ unbroken w c k s q | inr s ↦ let z : k ≡ w = omega arith in e (sym (byte_at w) ∙ ap (λ m. get_or (drop at body) m 0) (sym z) ∙ q) ]

    longer : (ls : List Line) → Leads (λ l. w < length l.columns) ls → Leads (λ l. whole w l ≡ false) ls
    longer [] h = elim h [ ]
    longer (l ∷ ls) h = and_left (eqb (length l.columns) w) l.ended (ne_eqb (length l.columns) w (λ q. omega arith))
