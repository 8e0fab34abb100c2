-- A worked run of CRQ.
use Rattle.std.specs.Prelude.{List, [], ◌∷◌, Some}
use Rattle.ring.specs.declared.answers.Answer.TheVariants.{PassedOver, Empty}
use Rattle.ring.specs.Table.{ticket}
use Rattle.turns.specs.Worked.{Run, first_worker, dequeues, at, AllComeOut}
use Rattle.crq.specs.Rows.{crq_step}

-- run 6: on two new cells a dequeue passes over ticket 2 at step 4 and is empty at step 5; cell 0 then has epoch 2
abbrev pub crq_runs : {I : Type 0} → List (Run I)
crq_runs =
    record { number = 6; cells = 2; before = []; last = dequeues first_worker 5; tells = at 4 (PassedOver (ticket 2)) ∷ at 5 (Empty (ticket 2)) ∷ []; epoch = Some 2 } ∷ []

-- it comes out as told
unfoldable pub CrqRunsStand : Type 0 → Type 0
CrqRunsStand I = AllComeOut {I = I} crq_step crq_runs
