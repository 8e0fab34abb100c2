-- The line that a call prints: its number, its worker, the number of its answer or refusal, the ticket, and the item's fifteen columns.
use Rattle.std.specs.Prelude.{ℕ, Bool, cond, List, [], ◌∷◌, ◌++◌, length, replicate, Some, None, Ok, Err, Option, Result, nat_le, nat_lt}
use Rattle.tickets.specs.declared.Ticket.{Ticket}
use Rattle.tickets.specs.declared.WorkerNo.{WorkerNo}
use Rattle.columns.specs.declared.row.Field.{Field}
use Rattle.columns.specs.declared.write_refusal.WriteRefusal.{WriteRefusal}
use Rattle.columns.specs.declared.write_refusal.WriteRefusal.TheVariants.{Narrow, Range}
use Rattle.columns.specs.Row.{row_text, row_fits}
use Rattle.columns.specs.Writing.{put}
use Rattle.ring.specs.declared.answers.Answer.{Answer}
use Rattle.ring.specs.declared.answers.Refusal.{Refusal}
use Rattle.ring.specs.Answers.{answer_ticket, answer_item, reply_number}

-- what a call came to
abbrev pub Reply : Type 0 → Type 0
Reply I = Result (Answer I) Refusal

-- the number of a ticket, or 0 where there is none
abbrev pub number_or_0 : Option Ticket → ℕ
number_or_0 None = 0
number_or_0 (Some k) = k.0

module _ {I : Type 0} where
  -- the ticket that an answer carries; a refusal has 0
  abbrev pub reply_ticket : Reply I → ℕ
  reply_ticket (Ok a) = number_or_0 (answer_ticket a)
  reply_ticket (Err r) = 0

  -- the item that an answer carries; a refusal has none
  abbrev pub reply_item : Reply I → Option I
  reply_item (Ok a) = answer_item a
  reply_item (Err r) = None

  -- assigned (0) and working (1) print nothing
  abbrev pub is_printed : Reply I → Bool
  is_printed r = nat_le 2 (reply_number r)

  -- the call in 9 columns, its worker in 4, the number of its answer or refusal in 3, the ticket or 0 in 13
  abbrev pub call_fields : ℕ → WorkerNo → Reply I → List Field
  call_fields call w r =
      record { width = 9; number = call } ∷ record { width = 4; number = w.0 } ∷ record { width = 3; number = reply_number r } ∷ record { width = 13; number = reply_ticket r } ∷ []

-- fifteen blanks, in place of an item
abbrev pub blanks : List ℕ
blanks = replicate 15 32

-- the item's columns, or blanks where there is no item; none where the item has a number out of range
abbrev pub shown : {I : Type 0} → (I → Option (List ℕ)) → Option I → Option (List ℕ)
shown text None = Some blanks
shown text (Some i) = text i

-- the numbers, the item's columns and an LF (10), where all of them can be written
abbrev pub line_of : List Field → Option (List ℕ) → Option (List ℕ)
line_of fs None = None
line_of fs (Some cs) = cond (row_fits fs) (Some (row_text fs ++ (cs ++ (10 ∷ [])))) None

-- the line with its LF (10); none where a number is wider than its field or the item cannot be written
abbrev pub call_line : {I : Type 0} → (I → Option (List ℕ)) → ℕ → WorkerNo → Reply I → Option (List ℕ)
call_line text call w r = line_of (call_fields call w r) (shown text (reply_item r))

-- the line over the front of the buffer; where there is no line, something is out of range
abbrev pub line_put : Option (List ℕ) → List ℕ → Result (Unit {0}) WriteRefusal × List ℕ
line_put None buffer = (Err Range, buffer)
line_put (Some cs) buffer = (Ok tt, put cs buffer)

-- a call line has 44 columns and an LF: a shorter buffer is narrow, and a refusal leaves it as it was
abbrev pub call_written : Option (List ℕ) → List ℕ → Result (Unit {0}) WriteRefusal × List ℕ
call_written line buffer = cond (nat_lt (length buffer) 45) (Err Narrow, buffer) (line_put line buffer)
