-- The numbers of answers and refusals, and what an answer carries.
use Rattle.std.specs.Prelude.{ℕ, Bool, true, false, Some, None, Ok, Err, Option, Result}
use Rattle.tickets.specs.declared.Ticket.{Ticket}
use Rattle.ring.specs.declared.answers.Answer.{Answer}
use Rattle.ring.specs.declared.answers.Answer.TheVariants.{Assigned, Working, Placed, Taken, PassedOver, Empty, Full, Closed}
use Rattle.ring.specs.declared.answers.Refusal.{Refusal}
use Rattle.ring.specs.declared.answers.Refusal.TheVariants.{Ring, Crew, Misfit, Nobody, Busy, Idle, Spent}

module _ {I : Type 0} where
  -- the number of an answer, 0 to 7
  abbrev pub answer_number : Answer I → ℕ
  answer_number Assigned = 0
  answer_number Working = 1
  answer_number (Placed k i) = 2
  answer_number (Taken k i) = 3
  answer_number (PassedOver k) = 4
  answer_number (Empty k) = 5
  answer_number (Full k i) = 6
  answer_number (Closed k i) = 7

  -- answers 2 to 7 carry the worker's ticket
  abbrev pub answer_ticket : Answer I → Option Ticket
  answer_ticket Assigned = None
  answer_ticket Working = None
  answer_ticket (Placed k i) = Some k
  answer_ticket (Taken k i) = Some k
  answer_ticket (PassedOver k) = Some k
  answer_ticket (Empty k) = Some k
  answer_ticket (Full k i) = Some k
  answer_ticket (Closed k i) = Some k

  -- answers 2, 3, 6 and 7 carry the item
  abbrev pub answer_item : Answer I → Option I
  answer_item Assigned = None
  answer_item Working = None
  answer_item (Placed k i) = Some i
  answer_item (Taken k i) = Some i
  answer_item (PassedOver k) = None
  answer_item (Empty k) = None
  answer_item (Full k i) = Some i
  answer_item (Closed k i) = Some i

  -- the worker is idle after the answer
  abbrev pub ends_operation : Answer I → Bool
  ends_operation Assigned = false
  ends_operation Working = false
  ends_operation (Placed k i) = true
  ends_operation (Taken k i) = true
  ends_operation (PassedOver k) = false
  ends_operation (Empty k) = true
  ends_operation (Full k i) = true
  ends_operation (Closed k i) = true

-- the number of a refusal, 11 to 17
abbrev pub refusal_number : Refusal → ℕ
refusal_number Ring = 11
refusal_number Crew = 12
refusal_number Misfit = 13
refusal_number Nobody = 14
refusal_number Busy = 15
refusal_number Idle = 16
refusal_number Spent = 17

-- the number of what a call replies: its answer's, or its refusal's
abbrev pub reply_number : {I : Type 0} → Result (Answer I) Refusal → ℕ
reply_number (Ok a) = answer_number a
reply_number (Err r) = refusal_number r
