-- Worked runs of PRQ, with items a, b and c.
use Rattle.std.specs.Prelude.{List, [], ◌∷◌, Some, None}
use Rattle.ring.specs.declared.answers.Answer.TheVariants.{Placed, PassedOver, Empty, Full, Closed}
use Rattle.ring.specs.Table.{ticket}
use Rattle.turns.specs.Worked.{Run, first_worker, second_worker, enqueues, dequeues, at, AllComeOut}
use Rattle.prq.specs.Rows.{prq_step}

-- runs 1 to 5, 7 and 8: at which steps of the last operation which answers come
abbrev pub prq_runs : {I : Type 0} → I → I → I → List (Run I)
prq_runs a b c =
    record { number = 1; cells = 1; before = []; last = enqueues first_worker a 7; tells = at 7 (Placed (ticket 1) a) ∷ []; epoch = None }
    ∷ record { number = 2; cells = 1; before = enqueues first_worker a 7 ∷ []; last = enqueues first_worker b 6; tells = at 6 (Full (ticket 2) b) ∷ []; epoch = None }
    ∷ record {
      number = 3;
      cells = 1;
      before = enqueues first_worker a 7 ∷ enqueues first_worker b 6 ∷ [];
      last = enqueues first_worker c 2;
      tells = at 2 (Closed (ticket 3) c) ∷ [];
      epoch = None;
    }
    ∷ record { number = 4; cells = 2; before = []; last = dequeues first_worker 6; tells = at 5 (PassedOver (ticket 2)) ∷ at 6 (Empty (ticket 2)) ∷ []; epoch = Some 1 }
    ∷ record { number = 5; cells = 2; before = dequeues first_worker 6 ∷ []; last = enqueues first_worker a 12; tells = at 12 (Placed (ticket 3) a) ∷ []; epoch = None }
    ∷ record {
      number = 7;
      cells = 2;
      before = enqueues first_worker a 6 ∷ [];
      last = dequeues second_worker 7;
      tells = at 6 (PassedOver (ticket 2)) ∷ at 7 (Empty (ticket 2)) ∷ [];
      epoch = None;
    }
    ∷ record {
      number = 8;
      cells = 1;
      before = enqueues first_worker a 7 ∷ dequeues first_worker 1 ∷ [];
      last = dequeues second_worker 6;
      tells = at 5 (PassedOver (ticket 2)) ∷ at 6 (Empty (ticket 2)) ∷ [];
      epoch = None;
    }
    ∷ []

-- each of them comes out as told, whatever the items are
unfoldable pub PrqRunsStand : Type 0 → Type 0
PrqRunsStand I = (a b c : I) → AllComeOut prq_step (prq_runs a b c)
