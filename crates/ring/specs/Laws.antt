-- The seven laws of a ring kind, on every table that calls with this kind alone led to from a new one.
use Rattle.std.specs.Prelude.{◌≡◌, ℕ, zero, suc, ◌≤◌, true, false, ◌⊎◌, List, Some, None, Ok, Err, Option, ◌≢◌}
use Rattle.tickets.specs.declared.Ticket.{Ticket}
use Rattle.tickets.specs.declared.WorkerNo.{WorkerNo}
use Rattle.ring.specs.declared.table.Worker.{Worker}
use Rattle.ring.specs.declared.table.Value.{Value}
use Rattle.ring.specs.declared.table.Value.TheVariants.{Empty, Token, Item}
use Rattle.ring.specs.declared.table.Side.{Side}
use Rattle.ring.specs.declared.table.Side.TheVariants.{Neither, Enqueuing, Dequeuing}
use Rattle.ring.specs.declared.table.EngineRow.TheVariants.{E9, D9}
use Rattle.ring.specs.declared.table.KindRow.{KindRow}
use Rattle.ring.specs.declared.table.KindRow.TheVariants.{E3, D2}
use Rattle.ring.specs.declared.table.Phase.{Phase}
use Rattle.ring.specs.declared.table.Phase.TheVariants.{Engine, Kind}
use Rattle.ring.specs.declared.answers.Answer.{Answer}
use Rattle.ring.specs.declared.answers.Answer.TheVariants.{Working, Placed, Taken, PassedOver}
use Rattle.ring.specs.declared.answers.Refusal.{Refusal}
use Rattle.ring.specs.declared.answers.Refusal.TheVariants.{Misfit}
use Rattle.ring.specs.declared.call.Call.{Call}
use Rattle.ring.specs.declared.call.Call.TheVariants.{AssignEnqueue, AssignDequeue, Step}
use Rattle.ring.specs.Table.{Table, InRange, laid_out, worker, cell, occupied}
use Rattle.ring.specs.Phases.{kind_side, side, Outside}
use Rattle.ring.specs.Fields.{finished}
use Rattle.ring.specs.Turns.{Turn, KindStep}
use Rattle.ring.specs.Calls.{Outcome, turned, is_worker, called, after}

-- outside the kind's phases, or entering them
abbrev pub Enters : Phase → Type 0
Enters p = Outside p ⊎ ((p ≡ Kind E3) ⊎ (p ≡ Kind D2))

module _ {I : Type 0} where
  -- the item that a value is, if it is one
  abbrev pub item_of : Value I → Option I
  item_of Empty = None
  item_of (Token n) = None
  item_of (Item i) = Some i

  -- calls with this kind alone led to the table from a new one
  pub record Reached (step : KindStep I) (t : Table I) : Type 0 where
    pub ring : ℕ
    pub crew : ℕ
    pub in_range : InRange ring crew
    pub calls : List (Call I)
    pub led : after step (laid_out ring crew) calls ≡ t

  -- one turn of the kind: a worker of the table in one of the kind's phases, and what its step gave
  pub record Turned (step : KindStep I) (t : Table I) (n : WorkerNo) (out : Turn I) : Type 0 where
    pub there : is_worker t n ≡ true
    pub standing : KindRow
    pub inside : (worker t n).phase ≡ Kind standing
    pub gave : step t.counters.cells t.counters.head n (worker t n) (cell t (worker t n).ticket) ≡ Ok out

  -- the table after it
  abbrev pub then_table : Table I → WorkerNo → Turn I → Table I
  then_table t n out = (turned t n (worker t n).ticket (Ok out)).table

  -- the worker keeps its ticket and its item
  pub record Kept (w w' : Worker I) : Type 0 where
    pub ticket : w'.ticket ≡ w.ticket
    pub item : w'.item ≡ w.item

  -- an enqueue works on in the kind's enqueue phases, works on at E9, or is placed with its item and idle
  pub data EnqueueTurn (w : Worker I) (out : Turn I) : Type 0 where
    went_on : out.answer ≡ Working → Kept w out.worker → (k : KindRow) → out.worker.phase ≡ Kind k → kind_side k ≡ Enqueuing → EnqueueTurn w out
    gave_up : out.answer ≡ Working → Kept w out.worker → out.worker.phase ≡ Engine E9 → EnqueueTurn w out
    did_place : (i : I) → w.item ≡ Some i → out.answer ≡ Placed w.ticket i → out.worker ≡ finished w → EnqueueTurn w out

  -- a dequeue works on in the kind's dequeue phases, is passed over and at D9, or has taken an item and is idle
  pub data DequeueTurn (w : Worker I) (out : Turn I) : Type 0 where
    went_on : out.answer ≡ Working → Kept w out.worker → (k : KindRow) → out.worker.phase ≡ Kind k → kind_side k ≡ Dequeuing → DequeueTurn w out
    did_pass : out.answer ≡ PassedOver w.ticket → Kept w out.worker → out.worker.phase ≡ Engine D9 → DequeueTurn w out
    did_take : (i : I) → out.answer ≡ Taken w.ticket i → out.worker ≡ finished w → DequeueTurn w out

  -- a turn by the side that the worker is on; who is on neither has none
  abbrev pub TurnOf : Side → Worker I → Turn I → Type 0
  TurnOf Neither w out = ⊥
  TurnOf Enqueuing w out = EnqueueTurn w out
  TurnOf Dequeuing w out = DequeueTurn w out

  -- 1. A step touches its worker's record and its ticket's cell only, and depends on these, the worker's number, R and Head alone: KindStep says so.
  -- An enqueue and a dequeue turn as above, and a refusal is 13.
  abbrev pub TouchesItsOwn : KindStep I → Table I → Type 0
  TouchesItsOwn step t =
      ((n : WorkerNo) (out : Turn I) → Turned step t n out → TurnOf (side (worker t n).phase) (worker t n) out)
      × ((n : WorkerNo) (r : Refusal) → is_worker t n ≡ true → step t.counters.cells t.counters.head n (worker t n) (cell t (worker t n).ticket) ≡ Err r → r ≡ Misfit)

  -- neither placed nor taken
  abbrev pub NeitherWay : Answer I → Type 0
  NeitherWay a = ((k : Ticket) (i : I) → a ≢ Placed k i) × ((k : Ticket) (i : I) → a ≢ Taken k i)

  module _ (step : KindStep I) (held : Table I → Ticket → I → Type 0) (barred : Table I → Ticket → Type 0) (t : Table I) where
    -- 2. Placed: the cell was not occupied and the ticket not barred; after it the ticket is held, with the item.
    abbrev pub PlacesFree : Type 0
    PlacesFree =
        (n : WorkerNo) (out : Turn I) (k : Ticket) (i : I) → Turned step t n out → out.answer ≡ Placed k i
        → (occupied (cell t k).value ≡ false) × (barred t k → ⊥) × held (then_table t n out) k i

    -- 3. Taken: the ticket was held, the answer is its item, and the cell is empty after it.
    abbrev pub TakesHeld : Type 0
    TakesHeld = (n : WorkerNo) (out : Turn I) (k : Ticket) (i : I) → Turned step t n out → out.answer ≡ Taken k i → held t k i × (out.cell.value ≡ Empty)

    -- 4. No other step changes or removes a cell's item, changes an occupied cell's epoch, or makes a cell occupied.
    abbrev pub LeavesItems : Type 0
    LeavesItems =
        (n : WorkerNo) (out : Turn I) → Turned step t n out → NeitherWay out.answer
        → (item_of out.cell.value ≡ item_of (cell t (worker t n).ticket).value)
        × (occupied (cell t (worker t n).ticket).value ≡ true → out.cell.pair.epoch ≡ (cell t (worker t n).ticket).pair.epoch)

    -- 5. Passed over: the ticket is not held, and is barred after it.
    abbrev pub PassesBarred : Type 0
    PassesBarred = (n : WorkerNo) (out : Turn I) (k : Ticket) → Turned step t n out → out.answer ≡ PassedOver k → ((i : I) → held t k i → ⊥) × barred (then_table t n out) k

  -- two records that a ring kind cannot tell apart
  pub record Alike (w w' : Worker I) : Type 0 where
    pub phase : w'.phase ≡ w.phase
    pub ticket : w'.ticket ≡ w.ticket
    pub item : w'.item ≡ w.item
    pub pair : w'.pair ≡ w.pair
    pub value : w'.value ≡ w.value

  -- only Closed, a grown Head or Tail, or workers outside the kind's phases or entering at E3 or D2 differ
  pub record Framed (t t' : Table I) : Type 0 where
    pub ring : t'.counters.cells ≡ t.counters.cells
    pub crew : t'.counters.workers ≡ t.counters.workers
    pub head : t.counters.head ≤ t'.counters.head
    pub tail : t.counters.tail ≤ t'.counters.tail
    pub cells : t'.cells ≡ t.cells
    pub workers : (n : WorkerNo) → Alike (worker t n) (worker t' n) ⊎ (Outside (worker t n).phase × Enters (worker t' n).phase)

  -- 6. A barred ticket stays barred under each step of the kind, and when only what Framed names changes. No epoch falls.
  abbrev pub StaysBarred : KindStep I → (Table I → Ticket → Type 0) → Table I → Type 0
  StaysBarred step barred t =
      ((n : WorkerNo) (out : Turn I) (k : Ticket) → Turned step t n out → barred t k → barred (then_table t n out) k)
      × ((t' : Table I) (k : Ticket) → Framed t t' → barred t k → barred t' k)
      × ((n : WorkerNo) (out : Turn I) → Turned step t n out → (cell t (worker t n).ticket).pair.epoch.0 ≤ out.cell.pair.epoch.0)

  -- what the last of j steps of one worker alone came to
  abbrev pub alone : KindStep I → Table I → WorkerNo → ℕ → Outcome I
  alone step t n zero = record { table = t; answer = Ok Working }
  alone step t n (suc j) = called step (alone step t n j).table (Step n)

  -- in a new table an enqueue stepped alone is placed by its eighth step, and a dequeue stepped alone after it takes that item by its eighth
  pub record ThereAndBack (step : KindStep I) (r w : ℕ) (n m : WorkerNo) (i : I) : Type 0 where
    pub enqueue_steps : ℕ
    pub dequeue_steps : ℕ
    pub enqueue_few : enqueue_steps ≤ 8
    pub dequeue_few : dequeue_steps ≤ 8
    pub ticket : Ticket
    pub places : (alone step (called step (laid_out r w) (AssignEnqueue n i)).table n enqueue_steps).answer ≡ Ok (Placed ticket i)
    pub takes : (alone step (called step (alone step (called step (laid_out r w) (AssignEnqueue n i)).table n enqueue_steps).table (AssignDequeue m)).table m dequeue_steps).answer ≡ Ok (Taken ticket i)

  -- 7. In every new table, for any two workers and any item, there and back.
  abbrev pub RoundTrip : KindStep I → Type 0
  RoundTrip step = (r w : ℕ) → InRange r w → (n m : WorkerNo) (i : I) → is_worker (laid_out {I = I} r w) n ≡ true → is_worker (laid_out {I = I} r w) m ≡ true → ThereAndBack step r w n m i
