-- A turn of a ring kind, and what the rows of a kind are made of.
use Rattle.std.specs.Prelude.{◌≡◌, ℕ, Bool, true, false, cond, not, ◌&&◌, Some, None, Ok, Err, Option, Result, ◌==◌, nat_lt}
use Rattle.tickets.specs.declared.Epoch.{Epoch}
use Rattle.tickets.specs.declared.WorkerNo.{WorkerNo}
use Rattle.tickets.specs.Places.{round}
use Rattle.ring.specs.declared.table.Pair.{Pair}
use Rattle.ring.specs.declared.table.Cell.{Cell}
use Rattle.ring.specs.declared.table.Worker.{Worker}
use Rattle.ring.specs.declared.table.Value.{Value}
use Rattle.ring.specs.declared.table.Value.TheVariants.{Empty, Token, Item}
use Rattle.ring.specs.declared.table.EngineRow.TheVariants.{D9}
use Rattle.ring.specs.declared.table.KindRow.{KindRow}
use Rattle.ring.specs.declared.table.Phase.{Phase}
use Rattle.ring.specs.declared.table.Phase.TheVariants.{Idle, Engine, Kind}
use Rattle.ring.specs.declared.answers.Answer.{Answer}
use Rattle.ring.specs.declared.answers.Answer.TheVariants.{Working, Placed, Taken, PassedOver}
use Rattle.ring.specs.declared.answers.Refusal.{Refusal}
use Rattle.ring.specs.declared.answers.Refusal.TheVariants.{Misfit}
use Rattle.ring.specs.Table.{counter_limit}
use Rattle.ring.specs.Fields.{with_phase, finished, with_cell_value}

-- the worker's record and its ticket's cell anew, with an answer
pub record Turn (I : Type 0) : Type 0 where
  pub worker : Worker I
  pub cell : Cell I
  pub answer : Answer I

-- a ring kind's step: fed R, Head, the worker's number, its record and its ticket's cell, it gives a turn or refuses
abbrev pub KindStep : Type 0 → Type 0
KindStep I = ℕ → ℕ → WorkerNo → Worker I → Cell I → Result (Turn I) Refusal

-- the pair is still as read
abbrev pub same_pair : Pair → Pair → Bool
same_pair p q = cond p.safe q.safe (not q.safe) && p.epoch.0 == q.epoch.0

module _ {I : Type 0} where
  -- what a turn answers, or its refusal
  abbrev pub turn_answer : Result (Turn I) Refusal → Result (Answer I) Refusal
  turn_answer (Ok out) = Ok out.answer
  turn_answer (Err r) = Err r

  -- the worker's record after a turn; a refusal leaves it
  abbrev pub turn_worker : Result (Turn I) Refusal → Worker I → Worker I
  turn_worker (Ok out) w = out.worker
  turn_worker (Err r) w = w

  -- the cell after a turn; a refusal leaves it
  abbrev pub turn_cell : Result (Turn I) Refusal → Cell I → Cell I
  turn_cell (Ok out) c = out.cell
  turn_cell (Err r) c = c

  -- the turn was performed on the record w and the cell c: the answer r, and both as they are left. A refusal leaves both as they were
  pub record Performed (turn : Result (Turn I) Refusal) (w : Worker I) (c : Cell I) (r : Result (Answer I) Refusal) (w' : Worker I) (c' : Cell I) : Type 0 where
    pub answer : r ≡ turn_answer turn
    pub worker : w' ≡ turn_worker turn w
    pub cell : c' ≡ turn_cell turn c

  -- the value is still as read; an item never counts as that
  abbrev pub still : Value I → Value I → Bool
  still Empty Empty = true
  still Empty (Token m) = false
  still Empty (Item j) = false
  still (Token n) Empty = false
  still (Token n) (Token m) = n.0 == m.0
  still (Token n) (Item j) = false
  still (Item i) v = false

  -- the value is empty
  abbrev pub is_empty : Value I → Bool
  is_empty Empty = true
  is_empty (Token n) = false
  is_empty (Item i) = false

  -- the value is a worker's token
  abbrev pub is_token : Value I → Bool
  is_token Empty = false
  is_token (Token n) = true
  is_token (Item i) = false

  -- a turn done: the record, the cell and the answer
  abbrev pub gives : Worker I → Cell I → Answer I → Result (Turn I) Refusal
  gives w c a = Ok (record { worker = w; cell = c; answer = a })

  -- the worker goes on to a phase
  abbrev pub goes : Worker I → Cell I → Phase → Result (Turn I) Refusal
  goes w c p = gives (with_phase w p) c Working

  -- its ticket is passed over
  abbrev pub passes : Worker I → Cell I → Result (Turn I) Refusal
  passes w c = gives (with_phase w (Engine D9)) c (PassedOver w.ticket)

  -- its item is placed in the cell, where it has one
  abbrev pub places : Worker I → Cell I → Option I → Result (Turn I) Refusal
  places w c None = Err Misfit
  places w c (Some i) = gives (finished w) (with_cell_value c (Item i)) (Placed w.ticket i)

  -- the item that it read is taken, and the cell is emptied
  abbrev pub takes : Worker I → Cell I → Value I → Result (Turn I) Refusal
  takes w c Empty = Err Misfit
  takes w c (Token n) = Err Misfit
  takes w c (Item i) = gives (finished w) (with_cell_value c Empty) (Taken w.ticket i)

-- the rows of a kind: by Head, the worker's number, its record, its ticket's cell and its ticket's round
abbrev pub KindRows : Type 0 → Type 0
KindRows I = ℕ → WorkerNo → Worker I → Cell I → Epoch → KindRow → Result (Turn I) Refusal

module _ {I : Type 0} where
  -- the row of a kind's phase; any other phase is refused (13)
  abbrev pub in_kind : (KindRow → Result (Turn I) Refusal) → Phase → Result (Turn I) Refusal
  in_kind f Idle = Err Misfit
  in_kind f (Engine e) = Err Misfit
  in_kind f (Kind k) = f k

  -- the step that consists of these rows. A ticket above the limit is refused, so that the epoch after its round can be written
  abbrev pub step_of : KindRows I → KindStep I
  step_of rows r head n w c = cond (nat_lt w.ticket.0 counter_limit) (in_kind (rows head n w c (round r w.ticket)) w.phase) (Err Misfit)
