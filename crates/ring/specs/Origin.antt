-- Where items and tickets come from: a ring invents none.
use Rattle.std.specs.Prelude.{◌≡◌, ℕ, ◌<◌, ◌⊎◌, List, [], ◌∷◌, Some, Ok}
use Rattle.tickets.specs.declared.Ticket.{Ticket}
use Rattle.tickets.specs.declared.WorkerNo.{WorkerNo}
use Rattle.ring.specs.declared.answers.Answer.{Answer}
use Rattle.ring.specs.declared.call.Call.{Call}
use Rattle.ring.specs.declared.call.Call.TheVariants.{AssignEnqueue}
use Rattle.ring.specs.Table.{InRange, counter_limit}
use Rattle.ring.specs.Answers.{answer_ticket, answer_item}
use Rattle.ring.specs.Turns.{KindStep}
use Rattle.ring.specs.Calls.{called}
use Rattle.ring.specs.Ledger.{run}

module _ {I : Type 0} where
  -- some call of the list assigns an enqueue with this item
  abbrev pub Assigns : I → List (Call I) → Type 0
  Assigns i [] = ⊥
  Assigns i (c ∷ cs) = ((n : WorkerNo) × (c ≡ AssignEnqueue n i)) ⊎ Assigns i cs

  -- nothing is invented: in every run whichever item an answer carries was assigned, and whichever ticket it carries is below the limit
  abbrev pub ItemsAssigned : KindStep I → Type 0
  ItemsAssigned step =
      (r w : ℕ) → InRange r w → (calls : List (Call I)) (call : Call I) (a : Answer I) → (called step (run step r w calls).table call).answer ≡ Ok a
      → ((i : I) → answer_item a ≡ Some i → Assigns i (call ∷ calls)) × ((k : Ticket) → answer_ticket a ≡ Some k → k.0 < counter_limit)
