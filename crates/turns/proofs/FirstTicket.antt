-- Turns with the first ticket of a ring, whose round is 1.
use Rattle.std.proofs.Common.{◌≡◌, ℕ, suc, true, ◌&&◌, ltb, Some, None, Ok, refl, ap, ◌∙◌, arith}
use native.Mathlib.Nat.{div_self}
use Rattle.std.proofs.lemmas.Bool.{and_from, lt-ltb, cond-true}
use Rattle.tickets.specs.declared.WorkerNo.{WorkerNo}
use Rattle.tickets.specs.Places.{round}
use Rattle.ring.specs.declared.table.Pair.{Pair}
use Rattle.ring.specs.declared.table.Value.{Value}
use Rattle.ring.specs.declared.table.Cell.{Cell}
use Rattle.ring.specs.declared.table.KindRow.{KindRow}
use Rattle.ring.specs.declared.table.Worker.{Worker}
use Rattle.ring.specs.declared.table.Phase.TheVariants.{Kind}
use Rattle.ring.specs.declared.answers.Answer.TheVariants.{Working}
use Rattle.ring.specs.Calls.{fit}
use Rattle.ring.specs.Phases.{kind_side}
use Rattle.ring.specs.Table.{InRange, counter_limit, ticket}
use Rattle.ring.specs.Turns.{Turn, KindRows, in_kind, step_of}
use Rattle.ring.proofs.RoundTrip.{Runs, last, more}

-- Safe, at an epoch
abbrev pub at_epoch : ℕ → Pair
at_epoch e = record { safe = true; epoch = record { 0 = e } }

-- it is below the limit, and so fit for a dequeue, and for an enqueue with its item
pub small : (r w : ℕ) → InRange r w → ltb r counter_limit ≡ true
small r w range = lt-ltb r counter_limit (omega (arith, range))

pub small_item : (r w : ℕ) → InRange r w → (ltb r counter_limit && true) ≡ true
small_item r w range = and_from (ltb r counter_limit) true (small r w range) refl

module _ {I : Type 0} where
  -- an enqueue and a dequeue with that ticket, at a row, with the pair and the value that they read
  abbrev pub enqueue_at : KindRow → ℕ → I → Pair → Value I → Worker I
  enqueue_at k r i p v = record { phase = Kind k; ticket = ticket r; item = Some i; pair = p; value = v }

  abbrev pub dequeue_at : KindRow → ℕ → Pair → Value I → Worker I
  dequeue_at k r p v = record { phase = Kind k; ticket = ticket r; item = None; pair = p; value = v }

  abbrev pub works : Worker I → Pair → Value I → Turn I
  works w p v = record { worker = w; cell = record { pair = p; value = v }; answer = Working }

  module _ (rows : KindRows I) (r w : ℕ) (range : InRange r w) where
    first_round : round r (ticket r) ≡ record { 0 = 1 }
    first_round = λ x. record { 0 = div_self range.0 x }

    module _ (head : ℕ) (n : WorkerNo) (k : KindRow) (v : Worker I) (c : Cell I) (out : Turn I) (p : v.phase ≡ Kind k) (q : v.ticket ≡ ticket r) where
      first_turn : rows head n v c (record { 0 = 1 }) k ≡ Ok out → step_of rows r head n v c ≡ Ok out
      first_turn e =
          cond-true (ltb v.ticket.0 counter_limit) _ _ (ap (λ x. ltb x.0 counter_limit) q ∙ small r w range)
          ∙ (ap (in_kind (rows head n v c (round r v.ticket))) p ∙ (ap (λ x. rows head n v c (round r x) k) q ∙ (ap (λ x. rows head n v c x k) first_round ∙ e)))

      pub last_turn : fit v (kind_side k) ≡ true → rows head n v c (record { 0 = 1 }) k ≡ Ok out → Runs (step_of rows) r head n 1 v c out
      last_turn f e = last k v c out p q f (first_turn e)

      pub more_turns : (end : Turn I) (j : ℕ) → fit v (kind_side k) ≡ true → rows head n v c (record { 0 = 1 }) k ≡ Ok out → Runs (step_of rows) r head n j out.worker out.cell end
          → Runs (step_of rows) r head n (suc j) v c end
      more_turns end j f e rest = more k v c out end j p q f (first_turn e) rest
