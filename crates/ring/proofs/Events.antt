-- Counts over events.
use Rattle.std.proofs.Common.{◌≡◌, ℕ, ◌+◌, ◌≤◌, eqb, ◌⊎◌, List, [], ◌∷◌, sym, refl, ap, subst, inl, inr, arith}
use Rattle.std.proofs.lemmas.Bool.{cases_eq, eq-eqb, ne_eqb}
use Rattle.tickets.specs.declared.Ticket.{Ticket}
use Rattle.ring.specs.Table.{ticket, one_if}
use Rattle.ring.specs.Ledger.{Event, placed, taken, passed_over}
use Rattle.ring.specs.Books.{Happened, times, placing, taking, FromPlaced}
use Rattle.ring.proofs.Equals.{same_ticket}

pub one_same : (a b : ℕ) → a ≡ b → one_if (eqb a b) ≡ 1
one_same a b e = ap one_if (eq-eqb a b e)

pub one_other : (a b : ℕ) → (a ≡ b → ⊥) → one_if (eqb a b) ≡ 0
one_other a b h = ap one_if (ne_eqb a b h)

-- one event more under the ticket a, where none is under it yet
pub once_more : (a b m : ℕ) → (a ≡ b → m ≡ 0) → m ≤ 1 → one_if (eqb a b) + m ≤ 1
once_more a b m new old = elim (cases_eq a b) [ inl e ↦ omega (arith, one_same a b e, new e) | inr h ↦ omega (arith, one_other a b h) ]

-- one event more of the first sort, under a ticket that has none of the second
pub one_sort : (a b m n : ℕ) → (a ≡ b → n ≡ 0) → (m ≡ 0) ⊎ (n ≡ 0) → (one_if (eqb a b) + m ≡ 0) ⊎ (0 + n ≡ 0)
one_sort a b m n none old =
    elim (cases_eq a b) [ inl e ↦ inr (omega (arith, none e)) | inr h ↦ elim old [ inl z ↦ inl (omega (arith, one_other a b h)) | inr z ↦ inr (omega arith) ] ]

module _ {I : Type 0} where
  pub happened_places : (k : Ticket) (i : I) (es : List (Event I)) → Happened (placed k i) es → 1 ≤ times (placing k.0) es
  happened_places k i [] h = absurd h
  happened_places k i (e ∷ es) (inl p) = subst (λ (x : Event I). 1 ≤ one_if (placing k.0 x) + times (placing k.0) es) (sym p) (omega (arith, one_same k.0 k.0 refl))
  happened_places k i (e ∷ es) (inr h) = omega (arith, happened_places k i es h)

  pub places_happened : (k : ℕ) (es : List (Event I)) → 1 ≤ times (placing k) es → (i : I) × Happened (placed (ticket k) i) es
  places_happened k [] h = absurd (omega arith)
  places_happened k (placed l i ∷ es) h =
      elim (cases_eq l.0 k) [
        | inl e ↦ (i, inl (ap (λ x. placed x i) (same_ticket e)))
        | inr n ↦ let r = places_happened k es (omega (arith, one_other l.0 k n)) in (r.0, inr r.1)
      ]
  places_happened k (taken l i ∷ es) h = let r = places_happened k es (omega arith) in (r.0, inr r.1)
  places_happened k (passed_over l ∷ es) h = let r = places_happened k es (omega arith) in (r.0, inr r.1)

  -- what was taken was placed
  pub takes_places : (k : ℕ) (es : List (Event I)) → FromPlaced es → 1 ≤ times (taking k) es → 1 ≤ times (placing k) es
  takes_places k [] f h = h
  takes_places k (placed l i ∷ es) f h = omega (arith, takes_places k es f (omega arith))
  takes_places k (taken l i ∷ es) f h =
      elim (cases_eq l.0 k) [
        | inl e ↦ let q : 1 ≤ times (placing k) es = rw e at (happened_places l i es f.0) in omega arith
        | inr n ↦ omega (arith, takes_places k es f.1 (omega (arith, one_other l.0 k n)))
      ]
  takes_places k (passed_over l ∷ es) f h = omega (arith, takes_places k es f (omega arith))

  pub unplaced_untaken : (k : ℕ) (es : List (Event I)) → FromPlaced es → times (placing k) es ≡ 0 → times (taking k) es ≡ 0
  unplaced_untaken k es f z = elim (cases_eq (times (taking k) es) 0) [ inl e ↦ e | inr h ↦ absurd (omega (arith, takes_places k es f (omega arith))) ]
