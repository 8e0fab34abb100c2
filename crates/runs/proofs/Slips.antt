-- For each slip a run whose books do not close: a ticket is passed over and placed, or taken and never placed.
use mathlib.Core.Path.{◌≡◌, refl, ap}
use mathlib.Core.List.{List, [], ◌∷◌}
use mathlib.Core.Logic.{inl, inr}
use Prim.Native.Nat.{ℕ, zero, suc}
use native.Mathlib.Omega.{arith}
use Rattle.tickets.specs.declared.WorkerNo.{WorkerNo}
use Rattle.ring.specs.declared.call.Call.{Call}
use Rattle.ring.specs.declared.call.Call.TheVariants.{AssignEnqueue, AssignDequeue, Step}
use Rattle.ring.specs.Turns.{KindStep, step_of}
use Rattle.ring.specs.Table.{ticket}
use Rattle.ring.specs.Ledger.{run, placed, taken, passed_over}
use Rattle.ring.specs.Books.{BooksClose, FromPlaced, times, placing, passing}
use Rattle.runs.specs.Slips.{token_left, read_once, head_first, difference, slips, EachBreaks}

abbrev w1 : WorkerNo
w1 = record { 0 = 1 }

abbrev w2 : WorkerNo
w2 = record { 0 = 2 }

abbrev w3 : WorkerNo
w3 = record { 0 = 3 }

module _ {I : Type 0} where
  -- the worker takes k steps after these calls
  abbrev steps : WorkerNo → ℕ → List (Call I) → List (Call I)
  steps n zero cs = cs
  steps n (suc k) cs = Step n ∷ steps n k cs

  -- an operation is assigned, and the worker takes k steps of it
  abbrev puts : WorkerNo → I → ℕ → List (Call I) → List (Call I)
  puts n i k cs = steps n k (AssignEnqueue n i ∷ cs)

  abbrev gets : WorkerNo → ℕ → List (Call I) → List (Call I)
  gets n k cs = steps n k (AssignDequeue n ∷ cs)

  -- a run, on one cell and with three workers, in which a ticket is both placed and passed over
  both : (step : KindStep I) (calls : List (Call I)) (k : ℕ)
      → times (placing k) (run step 1 3 calls).ledger.events ≡ 1 → times (passing k) (run step 1 3 calls).ledger.events ≡ 1 → BooksClose step → ⊥
  both step calls k p q b = elim ((b 1 3 (omega arith) calls).0.never_both k) [ inl e ↦ omega arith | inr e ↦ omega arith ]

  -- an item that was placed under ticket 3 is not one that was placed under ticket 1
  stray : (i : I) → FromPlaced (taken (ticket 1) i ∷ placed (ticket 3) i ∷ passed_over (ticket 2) ∷ []) → ⊥
  stray i h = elim h.0 [ inl e ↦ let k : ticket 3 ≡ ticket 1 = cc in let q : ◌≡◌ {A = ℕ} 3 1 = ap (λ x. x.0) k in omega arith | inr (inl e) ↦ cc | inr (inr e) ↦ e ]

  module _ (i : I) where
    -- an enqueue that only has to place its item is passed over by the dequeue of its ticket
    left : BooksClose {I = I} (step_of token_left) → ⊥
    left = both (step_of token_left) (steps w1 1 (gets w2 5 (puts w1 i 6 []))) 1 refl refl

    -- a dequeue reads the pair of ticket 1, which is then given up, and the item of ticket 3
    abbrev hasty : List (Call I)
    hasty = steps w2 3 (steps w1 14 (gets w3 7 (gets w2 2 (puts w1 i 6 []))))

    once : BooksClose {I = I} (step_of read_once) → ⊥
    once b = stray i (b 1 3 (omega arith) hasty).0.taken_from_placed

    -- an enqueue of ticket 3 reads Head, the dequeue of ticket 3 passes over an item of an earlier round, and that is taken before the enqueue reads the value
    first : BooksClose {I = I} (step_of head_first) → ⊥
    first = both (step_of head_first) (steps w1 4 (steps w2 4 (gets w3 5 (puts w1 i 9 (gets w3 6 (gets w2 1 (puts w1 i 8 []))))))) 3 refl refl

    -- an enqueue of ticket 2 comes to a cell that is not Safe, with Head past the ticket
    less : BooksClose {I = I} (step_of difference) → ⊥
    less = both (step_of difference) (puts w1 i 8 (steps w2 4 (gets w3 6 (gets w2 1 (puts w1 i 7 []))))) 2 refl refl

  pub slips_break : I → EachBreaks {I = I} slips
  unfolding EachBreaks
  slips_break i = (left i, (once i, (first i, (less i, tt))))
