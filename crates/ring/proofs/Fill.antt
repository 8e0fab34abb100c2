-- A ledger does fill: the round trip of the laws is a run, and its taking is noted.
use Rattle.std.proofs.Common.{◌≡◌, ℕ, zero, suc, true, List, [], ◌∷◌, Ok, Result, sym, refl, ap, ◌∙◌, subst, inl}
use Rattle.std.proofs.lemmas.Bool.{le-leb}
use Rattle.tickets.specs.declared.Ticket.{Ticket}
use Rattle.tickets.specs.declared.WorkerNo.{WorkerNo}
use Rattle.ring.specs.declared.answers.Answer.{Answer}
use Rattle.ring.specs.declared.answers.Answer.TheVariants.{Taken}
use Rattle.ring.specs.declared.answers.Refusal.{Refusal}
use Rattle.ring.specs.declared.call.Call.{Call}
use Rattle.ring.specs.declared.call.Call.TheVariants.{AssignEnqueue, AssignDequeue, Step}
use Rattle.ring.specs.Table.{laid_out}
use Rattle.ring.specs.Turns.{KindStep}
use Rattle.ring.specs.Calls.{is_worker, called}
use Rattle.ring.specs.Ledger.{fed, run, taken}
use Rattle.ring.specs.Books.{Happened, BooksFill}
use Rattle.ring.specs.Laws.{alone, RoundTrip}

module _ {I : Type 0} (step : KindStep I) where
  -- one worker's steps, after earlier calls
  abbrev steps : WorkerNo → ℕ → List (Call I) → List (Call I)
  steps n zero cs = cs
  steps n (suc j) cs = Step n ∷ steps n j cs

  module _ (r w : ℕ) where
    steps_alone : (n : WorkerNo) (cs : List (Call I)) (j : ℕ) → (run step r w (steps n j cs)).table ≡ (alone step (run step r w cs).table n j).table
    steps_alone n cs zero = refl
    steps_alone n cs (suc j) = ap (λ t. (called step t (Step n)).table) (steps_alone n cs j)

    -- a step that answers taken, as the last of some steps alone, is noted
    taken_noted : (n : WorkerNo) (cs : List (Call I)) (j : ℕ) (k : Ticket) (i : I) → (alone step (run step r w cs).table n j).answer ≡ Ok (Taken k i)
        → Happened (taken k i) (run step r w (steps n j cs)).ledger.events
    taken_noted n cs zero k i e = cc
    taken_noted n cs (suc j) k i e =
        let s = run step r w (steps n j cs) in
        let q : (called step s.table (Step n)).answer ≡ Ok (Taken k i) = ap (λ t. (called step t (Step n)).answer) (steps_alone n cs j) ∙ e in
        subst (λ (a : Result (Answer I) Refusal). Happened (taken k i) (fed s.ledger (Step n) a s.table.counters.head (called step s.table (Step n)).table.counters.head).events)
        (sym q) (inl refl)

  abbrev first : WorkerNo
  first = record { 0 = 1 }

  pub books_fill : RoundTrip step → BooksFill step
  books_fill trip r w h i =
      let there : is_worker (laid_out {I = I} r w) first ≡ true = le-leb 1 w h.2 in
      let t = trip r w h first first i there there in
      let cs = steps first t.enqueue_steps (AssignEnqueue first i ∷ []) in
      let e : (run step r w (AssignDequeue first ∷ cs)).table ≡ (called step (alone step (called step (laid_out r w) (AssignEnqueue first i)).table first t.enqueue_steps).table (AssignDequeue first)).table =
      ap (λ u. (called step u (AssignDequeue first)).table) (steps_alone r w first (AssignEnqueue first i ∷ []) t.enqueue_steps)
      in (
        steps first t.dequeue_steps (AssignDequeue first ∷ cs),
        t.ticket,
        taken_noted r w first (AssignDequeue first ∷ cs) t.dequeue_steps t.ticket i (ap (λ u. (alone step u first t.dequeue_steps).answer) e ∙ t.takes),
      )
