-- A step that consists of rows: its first law, row by row.
use Rattle.std.proofs.Common.{◌≡◌, ℕ, ltb, Ok, Err, Result, sym, refl, ap, ◌∙◌, subst, inl, inr}
use Rattle.std.proofs.lemmas.Bool.{cases_Bool, cond-true, cond-false}
use Rattle.tickets.specs.declared.Epoch.{Epoch}
use Rattle.tickets.specs.declared.WorkerNo.{WorkerNo}
use Rattle.tickets.specs.Places.{round}
use Rattle.ring.specs.declared.table.Cell.{Cell}
use Rattle.ring.specs.declared.table.Worker.{Worker}
use Rattle.ring.specs.declared.table.Side.{Side}
use Rattle.ring.specs.declared.table.Side.TheVariants.{Neither, Enqueuing, Dequeuing}
use Rattle.ring.specs.declared.table.KindRow.{KindRow}
use Rattle.ring.specs.declared.table.Phase.{Phase}
use Rattle.ring.specs.declared.table.Phase.TheVariants.{Idle, Engine, Kind}
use Rattle.ring.specs.declared.answers.Refusal.{Refusal}
use Rattle.ring.specs.declared.answers.Refusal.TheVariants.{Misfit}
use Rattle.ring.specs.Table.{Table, counter_limit, worker, cell}
use Rattle.ring.specs.Phases.{kind_side, side}
use Rattle.ring.specs.Fields.{with_phase}
use Rattle.ring.specs.Turns.{Turn, KindRows, in_kind, step_of}
use Rattle.ring.specs.Laws.{Turned, Kept, EnqueueTurn, DequeueTurn, TurnOf, TouchesItsOwn}

module _ {I : Type 0} where
  -- a turn with P, or refusal 13
  abbrev pub GivesTurn : (Turn I → Type 0) → Result (Turn I) Refusal → Type 0
  GivesTurn P (Ok out) = P out
  GivesTurn P (Err r) = r ≡ Misfit

  -- every row turns as an enqueue or a dequeue may, on any record and cell
  abbrev pub RowsTouchTheirOwn : KindRows I → Type 0
  RowsTouchTheirOwn rows = (head : ℕ) (n : WorkerNo) (w : Worker I) (s : Cell I) (c : Epoch) (k : KindRow) → GivesTurn (TurnOf (kind_side k) w) (rows head n w s c k)

  -- a worker that goes on keeps its ticket and its item
  pub kept_on : (w : Worker I) (p : Phase) → Kept w (with_phase w p)
  kept_on w p = record { ticket = refl; item = refl }

  -- a worker that is in one of the kind's phases after its turn kept its ticket
  pub kept_ticket : (x : Side) (w : Worker I) (out : Turn I) (j : KindRow) → TurnOf x w out → out.worker.phase ≡ Kind j → out.worker.ticket ≡ w.ticket
  kept_ticket Neither w out j a e = absurd a
  kept_ticket Enqueuing w out j (EnqueueTurn.went_on a k r p q) e = k.ticket
  kept_ticket Enqueuing w out j (EnqueueTurn.gave_up a k p) e = k.ticket
  kept_ticket Enqueuing w out j (EnqueueTurn.did_place i it a f) e = cc
  kept_ticket Dequeuing w out j (DequeueTurn.went_on a k r p q) e = k.ticket
  kept_ticket Dequeuing w out j (DequeueTurn.did_pass a k p) e = k.ticket
  kept_ticket Dequeuing w out j (DequeueTurn.did_take i a f) e = cc

  module _ (rows : KindRows I) where
    -- what the step gave is what the row of the phase gave
    pub row_gave : (r head : ℕ) (n : WorkerNo) (w : Worker I) (s : Cell I) (k : KindRow) (out : Turn I) → w.phase ≡ Kind k → step_of rows r head n w s ≡ Ok out
        → rows head n w s (round r w.ticket) k ≡ Ok out
    row_gave r head n w s k out p e = elim (cases_Bool (ltb w.ticket.0 counter_limit)) [
      | inl b ↦ sym (ap (in_kind (rows head n w s (round r w.ticket))) p) ∙ (sym (cond-true (ltb w.ticket.0 counter_limit) _ _ b) ∙ e)
      | inr b ↦ let x = cond-false (ltb w.ticket.0 counter_limit) (in_kind (rows head n w s (round r w.ticket)) w.phase) (Err Misfit) b in cc
    ]

    pub row_of_turn : (t : Table I) (n : WorkerNo) (out : Turn I) (d : Turned (step_of rows) t n out)
        → rows t.counters.head n (worker t n) (cell t (worker t n).ticket) (round t.counters.cells (worker t n).ticket) d.standing ≡ Ok out
    row_of_turn t n out d = row_gave t.counters.cells t.counters.head n (worker t n) (cell t (worker t n).ticket) d.standing out d.inside d.gave

    module _ (own : RowsTouchTheirOwn rows) where
      refuses_misfit : (r head : ℕ) (n : WorkerNo) (w : Worker I) (s : Cell I) (p : Phase) (x : Refusal) → in_kind (rows head n w s (round r w.ticket)) p ≡ Err x → x ≡ Misfit
      refuses_misfit r head n w s Idle x e = cc
      refuses_misfit r head n w s (Engine k) x e = cc
      refuses_misfit r head n w s (Kind k) x e = subst (GivesTurn (TurnOf (kind_side k) w)) e (own head n w s (round r w.ticket) k)

      pub rows_touch_their_own : (t : Table I) → TouchesItsOwn (step_of rows) t
      rows_touch_their_own t = (
        λ n out d.
            subst (λ x. TurnOf x (worker t n) out) (sym (ap side d.inside))
            (subst (GivesTurn (TurnOf (kind_side d.standing) (worker t n))) (row_of_turn t n out d) (own _ n (worker t n) _ _ d.standing)),
        λ n x b e.
            elim (cases_Bool (ltb (worker t n).ticket.0 counter_limit)) [
              | inl g ↦
                  refuses_misfit t.counters.cells t.counters.head n (worker t n) (cell t (worker t n).ticket) (worker t n).phase x
                  (sym (cond-true (ltb (worker t n).ticket.0 counter_limit) _ _ g) ∙ e)
              | inr g ↦ let y = cond-false (ltb (worker t n).ticket.0 counter_limit) (in_kind (rows t.counters.head n (worker t n) (cell t (worker t n).ticket) (round t.counters.cells (worker t n).ticket)) (worker t n).phase) (Err Misfit) g in cc
            ],
      )
