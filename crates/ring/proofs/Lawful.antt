-- A ring kind's meaning and its laws on the tables that calls led to, as the trait states them.
use Rattle.tickets.specs.declared.Ticket.{Ticket}
use Rattle.ring.specs.Table.{Table, Held}
use Rattle.ring.specs.Turns.{KindStep}
use Rattle.ring.specs.Laws.{Reached, TouchesItsOwn, PlacesFree, TakesHeld, LeavesItems, PassesBarred, StaysBarred}

-- P holds of every table that calls with the kind alone led to
abbrev pub OfReached : {I : Type 0} → KindStep I → (Table I → Type 0) → Type 0
OfReached {I} step P = (t : Table I) → Reached step t → P t

pub record Lawful {I : Type 0} (step : KindStep I) (held : Table I → Ticket → I → Type 0) (barred : Table I → Ticket → Type 0) : Type 0 where
  pub meaning : (t : Table I) (k : Ticket) (i : I) → (held t k i → Held t k i) × (Held t k i → held t k i)
  pub touches_its_own_lem : OfReached step (TouchesItsOwn step)
  pub places_free_lem : OfReached step (PlacesFree step held barred)
  pub takes_held_lem : OfReached step (TakesHeld step held barred)
  pub leaves_items_lem : OfReached step (LeavesItems step held barred)
  pub passes_barred_lem : OfReached step (PassesBarred step held barred)
  pub stays_barred_lem : OfReached step (StaysBarred step barred)
