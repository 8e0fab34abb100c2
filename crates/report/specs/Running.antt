-- What a player keeps while it runs: the table, how many calls were made, what was printed, and whether every line could be.
use Rattle.std.specs.Prelude.{ℕ, zero, suc, ◌+◌, Bool, true, false, cond, ◌&&◌, List, [], ◌∷◌, ◌++◌, Some, None, Ok, Err, Option, Result}
use Rattle.tickets.specs.declared.WorkerNo.{WorkerNo}
use Rattle.columns.specs.declared.fault.ColumnFault.{ColumnFault}
use Rattle.ring.specs.declared.call.Call.{Call}
use Rattle.ring.specs.declared.call.Call.TheVariants.{AssignEnqueue, AssignDequeue, Step}
use Rattle.ring.specs.Answers.{ends_operation}
use Rattle.ring.specs.Calls.{called}
use Rattle.ring.specs.Table.{Table}
use Rattle.ring.specs.Calls.{Outcome}
use Rattle.ring.specs.Turns.{KindStep}
use Rattle.play.specs.Orders.{PlainOrder, enqueue, dequeue, steps}
use Rattle.lines.specs.CallLine.{Reply, is_printed, call_line}

-- the table, how many calls were made, what was printed, and whether every line could be written
pub record Running (I : Type 0) : Type 0 where
  pub table : Table I
  pub calls : ℕ
  pub text : List ℕ
  pub written : Bool

-- what a line adds to the text; one that cannot be written adds nothing
abbrev pub line_bytes : Option (List ℕ) → List ℕ
line_bytes None = []
line_bytes (Some cs) = cs

-- the line can be written
abbrev pub has_line : Option (List ℕ) → Bool
has_line None = false
has_line (Some cs) = true

module _ {I : Type 0} where
  -- whose call it is
  abbrev pub caller : Call I → WorkerNo
  caller (AssignEnqueue n i) = n
  caller (AssignDequeue n) = n
  caller (Step n) = n

  -- an S order makes no step after a refusal, or after an answer that ends the operation
  abbrev pub stops : Reply I → Bool
  stops (Ok a) = ends_operation a
  stops (Err r) = true

  -- the line of a call, if it prints one
  abbrev pub printed : (I → Option (List ℕ)) → ℕ → WorkerNo → Reply I → Option (List ℕ)
  printed text n w r = cond (is_printed r) (call_line text n w r) (Some [])

  -- one more call: its table, its number and its line
  abbrev pub noted : (I → Option (List ℕ)) → Running I → WorkerNo → Outcome I → Running I
  noted text s w o =
      record {
        table = o.table;
        calls = s.calls + 1;
        text = s.text ++ line_bytes (printed text (s.calls + 1) w o.answer);
        written = s.written && has_line (printed text (s.calls + 1) w o.answer);
      }

module _ {I : Type 0} (text : I → Option (List ℕ)) (step : KindStep I) where
  -- one call
  abbrev pub performed : Running I → Call I → Running I
  performed s c = noted text s (caller c) (called step s.table c)

  -- at most n steps of a worker
  abbrev pub stepping : WorkerNo → ℕ → Running I → Running I
  stepping w zero s = s
  stepping w (suc n) s = cond (stops (called step s.table (Step w)).answer) (performed s (Step w)) (stepping w n (performed s (Step w)))

module _ {I : Type 0} (text : I → Option (List ℕ)) (reading : List ℕ → Result I ColumnFault) (step : KindStep I) where
  -- the assignment of an enqueue with the item that was read; columns that write no item do nothing
  abbrev pub enqueuing : WorkerNo → Result I ColumnFault → Running I → Running I
  enqueuing w (Ok i) s = performed text step s (AssignEnqueue w i)
  enqueuing w (Err f) s = s

  -- what one order does: an assignment, or steps
  abbrev pub ordered : PlainOrder → Running I → Running I
  ordered (enqueue w cs) s = enqueuing w (reading cs) s
  ordered (dequeue w) s = performed text step s (AssignDequeue w)
  ordered (steps w n) s = stepping text step w n s

  -- what the orders do, one after the other
  abbrev pub all_ordered : List PlainOrder → Running I → Running I
  all_ordered [] s = s
  all_ordered (o ∷ os) s = all_ordered os (ordered o s)

-- how many calls an order makes at most
abbrev pub most_calls : PlainOrder → ℕ
most_calls (enqueue w cs) = 1
most_calls (dequeue w) = 1
most_calls (steps w n) = n
