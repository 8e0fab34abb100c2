-- One step more of an S order, and what stays once a line could not be written.
use Rattle.std.proofs.Common.{◌≡◌, ℕ, zero, suc, ◌-◌, ◌<◌, true, false, List, Option, ap, ◌∙◌, inl, inr, arith}
use Rattle.std.proofs.lemmas.Bool.{cond-true, cond-false, cases_Bool, and_left}
use Rattle.tickets.specs.declared.WorkerNo.{WorkerNo}
use Rattle.ring.specs.declared.call.Call.{Call}
use Rattle.ring.specs.declared.call.Call.TheVariants.{Step}
use Rattle.ring.specs.Calls.{called}
use Rattle.ring.specs.Turns.{KindStep}
use Rattle.report.specs.Running.{Running, performed, stepping, stops}

module _ {I : Type 0} (text : I → Option (List ℕ)) (step : KindStep I) where
  pub steps_stop : (w : WorkerNo) (n : ℕ) (s : Running I) → 0 < n → stops (called step s.table (Step w)).answer ≡ true → stepping text step w n s ≡ performed text step s (Step w)
  steps_stop w zero s h e = absurd (omega arith)
  steps_stop w (suc n) s h e = cond-true (stops (called step s.table (Step w)).answer) _ _ e

  pub steps_on : (w : WorkerNo) (n : ℕ) (s : Running I) → 0 < n → stops (called step s.table (Step w)).answer ≡ false → stepping text step w n s ≡ stepping text step w (n - 1) (performed text step s (Step w))
  steps_on w zero s h e = absurd (omega arith)
  steps_on w (suc n) s h e =
      let same : n ≡ suc n - 1 = omega arith in
      cond-false (stops (called step s.table (Step w)).answer) _ _ e ∙ ap (λ m. stepping text step w m (performed text step s (Step w))) same

  pub call_unwritten : (s : Running I) (c : Call I) → s.written ≡ false → (performed text step s c).written ≡ false
  call_unwritten s c e = and_left s.written _ e

  pub steps_unwritten : (w : WorkerNo) (n : ℕ) (s : Running I) → s.written ≡ false → (stepping text step w n s).written ≡ false
  steps_unwritten w zero s e = e
  steps_unwritten w (suc n) s e =
      elim (cases_Bool (stops (called step s.table (Step w)).answer)) [
        | inl stop ↦ ap (λ (x : Running I). x.written) (cond-true (stops (called step s.table (Step w)).answer) _ _ stop) ∙ call_unwritten s (Step w) e
        | inr on ↦
            ap (λ (x : Running I). x.written) (cond-false (stops (called step s.table (Step w)).answer) _ _ on)
            ∙ steps_unwritten w n (performed text step s (Step w)) (call_unwritten s (Step w) e)
      ]

  -- a step whose line cannot be written
  pub steps_fail : (w : WorkerNo) (n : ℕ) (s : Running I) → 0 < n → (performed text step s (Step w)).written ≡ false → (stepping text step w n s).written ≡ false
  steps_fail w n s h e =
      elim (cases_Bool (stops (called step s.table (Step w)).answer)) [
        | inl stop ↦ ap (λ (x : Running I). x.written) (steps_stop w n s h stop) ∙ e
        | inr on ↦ ap (λ (x : Running I). x.written) (steps_on w n s h on) ∙ steps_unwritten w (n - 1) (performed text step s (Step w)) e
      ]
