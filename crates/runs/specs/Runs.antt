-- The worked runs of both ring kinds, as one table.
use Rattle.std.specs.Prelude.{List, [], ◌∷◌, ◌++◌}
use Rattle.ring.specs.Turns.{KindStep}
use Rattle.turns.specs.Worked.{Run, ComesOut}
use Rattle.prq.specs.Rows.{prq_step}
use Rattle.prq.specs.Worked.{prq_runs}
use Rattle.crq.specs.Rows.{crq_step}
use Rattle.crq.specs.Worked.{crq_runs}

-- a row of the table: the ring kind's step, and the run with what it tells
pub record Row (I : Type 0) : Type 0 where
  pub step : KindStep I
  pub run : Run I

module _ {I : Type 0} where
  -- runs of one ring kind as rows of the table
  abbrev with_kind : KindStep I → List (Run I) → List (Row I)
  with_kind step [] = []
  with_kind step (r ∷ rs) = record { step = step; run = r } ∷ with_kind step rs

  -- the table: runs 1 to 5, 7 and 8 of PRQ, and run 6 of CRQ
  abbrev pub worked_runs : I → I → I → List (Row I)
  worked_runs a b c = with_kind prq_step (prq_runs a b c) ++ with_kind crq_step crq_runs

  -- each of these rows comes out as told
  abbrev pub EachComesOut : List (Row I) → Type 0
  EachComesOut [] = Unit {0}
  EachComesOut (r ∷ rs) = ComesOut r.step r.run × EachComesOut rs

-- every row of the table comes out as told, whatever the items are
unfoldable pub WorkedRunsStand : Type 0 → Type 0
WorkedRunsStand I = (a b c : I) → EachComesOut (worked_runs a b c)
