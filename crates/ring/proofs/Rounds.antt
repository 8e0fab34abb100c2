-- A ticket is known by its cell and its round.
use Rattle.std.proofs.Common.{◌≡◌, ℕ, ◌/◌, ◌<◌, ap, inl, inr, arith}
use native.Mathlib.Nat.{mod-add-div}
use Rattle.std.proofs.lemmas.Nat.{div-add-mod', mul-le}
use Rattle.std.proofs.lemmas.Bool.{cases_lt}
use Rattle.tickets.specs.declared.Ticket.{Ticket}
use Rattle.tickets.specs.Places.{round, slot}
use Rattle.ring.proofs.Equals.{same_ticket}

-- one cell and one round are those of one ticket
pub same_place : (r : ℕ) (k l : Ticket) → slot r k ≡ slot r l → round r k ≡ round r l → k ≡ l
same_place r k l s e =
    same_ticket (let p = mod-add-div k.0 r in let q = mod-add-div l.0 r in let d : k.0 / r ≡ l.0 / r = ap (λ x. x.0) e in cc)

-- in one cell a later ticket has a later round
pub later_round : (r : ℕ) (k l : Ticket) → slot r k ≡ slot r l → k.0 < l.0 → (round r k).0 < (round r l).0
later_round r k l e h =
    elim (cases_lt (k.0 / r) (l.0 / r)) [
      | inl f ↦ f
      | inr f ↦ absurd (omega (arith, div-add-mod' k.0 r, div-add-mod' l.0 r, mul-le (l.0 / r) r (k.0 / r) r f (omega arith)))
    ]
