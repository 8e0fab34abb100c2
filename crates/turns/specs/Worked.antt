-- Worked runs: what is done on a new table with two workers, and what comes of it.
use Rattle.std.specs.Prelude.{◌≡◌, ℕ, zero, suc, List, [], ◌∷◌, ◌++◌, Some, None, Ok, Err, Option, Result, slice_index_or}
use Rattle.tickets.specs.declared.WorkerNo.{WorkerNo}
use Rattle.ring.specs.declared.answers.Answer.{Answer}
use Rattle.ring.specs.declared.answers.Answer.TheVariants.{Assigned, Working, Placed, Taken, PassedOver, Empty, Full, Closed}
use Rattle.ring.specs.declared.answers.Refusal.{Refusal}
use Rattle.ring.specs.declared.call.Call.{Call}
use Rattle.ring.specs.declared.call.Call.TheVariants.{AssignEnqueue, AssignDequeue}
use Rattle.ring.specs.Table.{Table, fresh_cell, laid_out}
use Rattle.ring.specs.Turns.{KindStep}
use Rattle.ring.specs.Calls.{called}
use Rattle.ring.specs.Laws.{alone}

-- worker 1
abbrev pub first_worker : WorkerNo
first_worker = record { 0 = 1 }

-- worker 2
abbrev pub second_worker : WorkerNo
second_worker = record { 0 = 2 }

-- a worker is assigned an operation and stepped alone
pub record Spell (I : Type 0) : Type 0 where
  pub worker : WorkerNo
  pub item : Option I
  pub steps : ℕ

-- at this step comes this answer or refusal
pub record Telling (I : Type 0) : Type 0 where
  pub step : ℕ
  pub answer : Result (Answer I) Refusal

-- a row of the table of worked runs: on a new ring of so many cells, after some spells, the last spell's steps tell these answers, and working at all others.
-- Where an epoch is given, cell 0 has it after that
pub record Run (I : Type 0) : Type 0 where
  pub number : ℕ
  pub cells : ℕ
  pub before : List (Spell I)
  pub last : Spell I
  pub tells : List (Telling I)
  pub epoch : Option ℕ

module _ {I : Type 0} where
  -- worker n enqueues the item i, with k steps
  abbrev pub enqueues : WorkerNo → I → ℕ → Spell I
  enqueues n i k = record { worker = n; item = Some i; steps = k }

  -- worker n dequeues, with k steps
  abbrev pub dequeues : WorkerNo → ℕ → Spell I
  dequeues n k = record { worker = n; item = None; steps = k }

  -- at step k the answer is a
  abbrev pub at : ℕ → Answer I → Telling I
  at k a = record { step = k; answer = Ok a }

  -- the assignment of an enqueue with its item, or of a dequeue
  abbrev assignment : WorkerNo → Option I → Call I
  assignment n None = AssignDequeue n
  assignment n (Some i) = AssignEnqueue n i

  module _ (step : KindStep I) where
    -- the table after a spell's assignment
    abbrev assigned : Table I → Spell I → Table I
    assigned t s = (called step t (assignment s.worker s.item)).table

    -- the table after a spell: its assignment and its steps
    abbrev pub spell : Table I → Spell I → Table I
    spell t s = (alone step (assigned t s) s.worker s.steps).table

    -- the table after several spells, the first one first
    abbrev pub spells : Table I → List (Spell I) → Table I
    spells t [] = t
    spells t (s ∷ ss) = spells (spell t s) ss

    -- what a step tells: a refusal, or an answer other than working
    abbrev pub telling : ℕ → Result (Answer I) Refusal → List (Telling I)
    telling k (Err r) = record { step = k; answer = Err r } ∷ []
    telling k (Ok Assigned) = at k Assigned ∷ []
    telling k (Ok Working) = []
    telling k (Ok (Placed t i)) = at k (Placed t i) ∷ []
    telling k (Ok (Taken t i)) = at k (Taken t i) ∷ []
    telling k (Ok (PassedOver t)) = at k (PassedOver t) ∷ []
    telling k (Ok (Empty t)) = at k (Empty t) ∷ []
    telling k (Ok (Full t i)) = at k (Full t i) ∷ []
    telling k (Ok (Closed t i)) = at k (Closed t i) ∷ []

    -- what the first k steps of a worker alone tell
    abbrev pub told : Table I → WorkerNo → ℕ → List (Telling I)
    told t n zero = []
    told t n (suc k) = told t n k ++ telling (suc k) (alone step t n (suc k)).answer

    -- cell 0 has this epoch, where one is asked for
    abbrev EpochIs : Table I → Option ℕ → Type 0
    EpochIs t None = Unit {0}
    EpochIs t (Some e) = (slice_index_or t.cells 0 fresh_cell).pair.epoch.0 ≡ e

    -- the run comes out so
    abbrev pub ComesOut : Run I → Type 0
    ComesOut r =
        let t = spells (laid_out r.cells 2) r.before in
        (told (assigned t r.last) r.last.worker r.last.steps ≡ r.tells) × EpochIs (spell t r.last) r.epoch

    -- each of the runs comes out so
    abbrev pub AllComeOut : List (Run I) → Type 0
    AllComeOut [] = Unit {0}
    AllComeOut (r ∷ rs) = ComesOut r × AllComeOut rs
