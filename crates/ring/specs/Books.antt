-- What must hold of every run: nothing is counted twice, and nothing is left out.
use Rattle.std.specs.Prelude.{◌≡◌, ℕ, ◌+◌, ◌<◌, ◌≤◌, Bool, true, false, ◌⊎◌, List, [], ◌∷◌, Some, Ok, ◌==◌}
use Rattle.tickets.specs.declared.Ticket.{Ticket}
use Rattle.tickets.specs.declared.WorkerNo.{WorkerNo}
use Rattle.ring.specs.declared.answers.Answer.TheVariants.{Empty}
use Rattle.ring.specs.declared.call.Call.{Call}
use Rattle.ring.specs.Table.{InRange, one_if, occupied_cells, Held}
use Rattle.ring.specs.Turns.{KindStep}
use Rattle.ring.specs.Calls.{called}
use Rattle.ring.specs.Ledger.{Event, Ledger, State, run, placed, taken, passed_over}

module _ {I : Type 0} where
  -- the event e is among these
  abbrev pub Happened : Event I → List (Event I) → Type 0
  Happened e [] = ⊥
  Happened e (x ∷ xs) = (x ≡ e) ⊎ Happened e xs

  -- how many of the events are of a sort
  abbrev pub times : (Event I → Bool) → List (Event I) → ℕ
  times f [] = 0
  times f (e ∷ es) = one_if (f e) + times f es

  -- an item was placed
  abbrev pub is_placing : Event I → Bool
  is_placing (placed t i) = true
  is_placing (taken t i) = false
  is_placing (passed_over t) = false

  -- an item was taken
  abbrev pub is_taking : Event I → Bool
  is_taking (placed t i) = false
  is_taking (taken t i) = true
  is_taking (passed_over t) = false

  -- an item was placed under the ticket with number k
  abbrev pub placing : ℕ → Event I → Bool
  placing k (placed t i) = t.0 == k
  placing k (taken t i) = false
  placing k (passed_over t) = false

  -- an item was taken under the ticket with number k
  abbrev pub taking : ℕ → Event I → Bool
  taking k (placed t i) = false
  taking k (taken t i) = t.0 == k
  taking k (passed_over t) = false

  -- the ticket with number k was passed over
  abbrev pub passing : ℕ → Event I → Bool
  passing k (placed t i) = false
  passing k (taken t i) = false
  passing k (passed_over t) = t.0 == k

  -- each item taken was placed earlier, under the same ticket
  abbrev pub FromPlaced : List (Event I) → Type 0
  FromPlaced [] = Unit {0}
  FromPlaced (placed k i ∷ es) = FromPlaced es
  FromPlaced (taken k i ∷ es) = Happened (placed k i) es × FromPlaced es
  FromPlaced (passed_over k ∷ es) = FromPlaced es

  -- some dequeue is at work on the ticket
  abbrev pub Attended : Ledger I → Ticket → Type 0
  Attended l k = (n : WorkerNo) × (l.at_work n ≡ Some k)

  -- a table agrees with its ledger
  pub record Sound (s : State I) : Type 0 where
    pub placed_once : (k : ℕ) → times (placing k) s.ledger.events ≤ 1
    pub taken_once : (k : ℕ) → times (taking k) s.ledger.events ≤ 1
    pub taken_from_placed : FromPlaced s.ledger.events
    -- a ticket is held with an item exactly when the item was placed under it and the ticket not taken
    pub held_is_placed : (k : Ticket) (i : I) → Held s.table k i → Happened (placed k i) s.ledger.events × (times (taking k.0) s.ledger.events ≡ 0)
    pub placed_is_held : (k : Ticket) (i : I) → Happened (placed k i) s.ledger.events → times (taking k.0) s.ledger.events ≡ 0 → Held s.table k i
    -- items placed are items taken and occupied cells
    pub balance : times is_placing s.ledger.events ≡ times is_taking s.ledger.events + occupied_cells s.table.cells
    -- no ticket was both placed and passed over
    pub never_both : (k : ℕ) → (times (placing k) s.ledger.events ≡ 0) ⊎ (times (passing k) s.ledger.events ≡ 0)
    -- each held ticket below Head has a dequeue at work on it
    pub attended : (k : Ticket) (i : I) → Held s.table k i → k.0 < s.table.counters.head → Attended s.ledger k

  -- at each answer empty of the run, every ticket then held had a dequeue at work on it
  abbrev pub EmptyAttended : KindStep I → ℕ → ℕ → List (Call I) → Type 0
  EmptyAttended step r w [] = Unit {0}
  EmptyAttended step r w (call ∷ earlier) =
      ((d : Ticket) (k : Ticket) (i : I) → (called step (run step r w earlier).table call).answer ≡ Ok (Empty d) → Held (run step r w earlier).table k i → Attended (run step r w earlier).ledger k)
      × EmptyAttended step r w earlier

  -- the whole statement, of a ring kind's step: for every R and W in range and every list of calls, done or refused
  abbrev pub BooksClose : KindStep I → Type 0
  BooksClose step = (r w : ℕ) → InRange r w → (calls : List (Call I)) → Sound (run step r w calls) × EmptyAttended step r w calls

  -- the books are not closed for want of entries: for every R and W in range and every item, some calls lead to its taking
  abbrev pub BooksFill : KindStep I → Type 0
  BooksFill step = (r w : ℕ) → InRange r w → (i : I) → (calls : List (Call I)) × (k : Ticket) × Happened (taken k i) (run step r w calls).ledger.events
