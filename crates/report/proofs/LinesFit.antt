-- Every line of a run fits: calls, workers and tickets are small, and each item was assigned, so it has a text.
use Rattle.std.proofs.Common.{◌≡◌, ℕ, zero, suc, ◌+◌, ◌*◌, ◌<◌, ◌≤◌, Bool, true, false, List, [], ◌∷◌, length, Some, None, Ok, Err, Option, Result, refl, ap, ◌∙◌, subst, inl, inr, arith}
use Rattle.std.proofs.lemmas.Bool.{cond-true, cond_both, and_from}
use Rattle.tickets.specs.declared.Ticket.{Ticket}
use Rattle.tickets.specs.declared.WorkerNo.{WorkerNo}
use Rattle.columns.specs.declared.fault.ColumnFault.{ColumnFault}
use Rattle.columns.specs.declared.row.Field.{Field}
use Rattle.columns.specs.Row.{row_fits}
use Rattle.ring.specs.declared.answers.Answer.{Answer}
use Rattle.ring.specs.declared.answers.Answer.TheVariants.{Assigned, Working, Placed, Taken, PassedOver, Empty, Full, Closed}
use Rattle.ring.specs.declared.answers.Refusal.TheVariants.{Ring, Crew, Misfit, Nobody, Busy, Idle, Spent}
use Rattle.ring.specs.declared.call.Call.{Call}
use Rattle.ring.specs.declared.call.Call.TheVariants.{AssignEnqueue, AssignDequeue, Step}
use Rattle.ring.specs.declared.table.Cell.{Cell}
use Rattle.ring.specs.declared.table.Value.{Value}
use Rattle.ring.specs.declared.table.Value.TheVariants as value
use Rattle.ring.specs.Answers.{answer_item, answer_ticket, reply_number}
use Rattle.ring.specs.Calls.{called}
use Rattle.ring.specs.Ledger.{run}
use Rattle.ring.specs.Origin.{Assigns, ItemsAssigned}
use Rattle.ring.specs.Table.{Table, InRange, counter_limit, one_if, occupied, occupied_cells}
use Rattle.ring.specs.Turns.{KindStep}
use Rattle.ring.proofs.Orderly.{Orderly}
use Rattle.lines.specs.CallLine.{Reply, number_or_0, reply_ticket, reply_item, is_printed, call_fields, shown, line_of, call_line}
use Rattle.lines.specs.LastLine.{bit}
use Rattle.play.specs.declared.header.ItemChoice.{ItemChoice}
use Rattle.play.specs.Orders.{PlainOrder, enqueue, dequeue, steps}
use Rattle.play.specs.Text.{OrderFits, OrdersFit, orders_text}
use Rattle.play.proofs.ItemKinds.{item_laws}
use Rattle.report.specs.Running.{Running, has_line, caller, stops, printed, performed, stepping, enqueuing, ordered, all_ordered}
use Rattle.report.specs.Whole.{starting, table_fields, whole_run}
use Rattle.report.proofs.Orders.{order_shorter}
use Rattle.report.proofs.SmallRows.{small_fits}

line_has : (fs : List Field) (o : Option (List ℕ)) → row_fits fs ≡ true → has_line o ≡ true → has_line (line_of fs o) ≡ true
line_has fs None f h = cc
line_has fs (Some cs) f h = ap has_line (cond-true (row_fits fs) _ _ f)

number_low : (o : Option Ticket) → ((k : Ticket) → o ≡ Some k → k.0 < counter_limit) → number_or_0 o < counter_limit
number_low None h = omega arith
number_low (Some k) h = h k refl

bit_low : (b : Bool) → bit b ≤ 1
bit_low true = omega arith
bit_low false = omega arith

module _ {I : Type 0} where
  reply_low : (x : Reply I) → reply_number x ≤ 17
  reply_low (Ok Assigned) = omega arith
  reply_low (Ok Working) = omega arith
  reply_low (Ok (Placed k i)) = omega arith
  reply_low (Ok (Taken k i)) = omega arith
  reply_low (Ok (PassedOver k)) = omega arith
  reply_low (Ok (Empty k)) = omega arith
  reply_low (Ok (Full k i)) = omega arith
  reply_low (Ok (Closed k i)) = omega arith
  reply_low (Err Ring) = omega arith
  reply_low (Err Crew) = omega arith
  reply_low (Err Misfit) = omega arith
  reply_low (Err Nobody) = omega arith
  reply_low (Err Busy) = omega arith
  reply_low (Err Idle) = omega arith
  reply_low (Err Spent) = omega arith

  one_low : (v : Value I) → one_if (occupied v) ≤ 1
  one_low value.Empty = omega arith
  one_low (value.Token n) = omega arith
  one_low (value.Item i) = omega arith

  -- no more cells are occupied than there are
  occupied_low : (cs : List (Cell I)) → occupied_cells cs ≤ length cs
  occupied_low [] = omega arith
  occupied_low (c ∷ cs) = omega (arith, one_low c.value, occupied_low cs)

  table_fits : (t : Table I) → Orderly t → row_fits (table_fields t) ≡ true
  table_fits t o =
      let r = o.in_range in
      small_fits (table_fields t) (
        omega arith,
        omega (arith, o.head_to),
        (
          omega arith,
          omega (arith, o.tail_to),
          (omega arith, omega (arith, bit_low t.counters.closed), (omega arith, omega (arith, occupied_low t.cells, o.ring), tt)),
        ),
      )

  module _ (text : I → Option (List ℕ)) where
    shown_has : (o : Option I) → ((i : I) → o ≡ Some i → has_line (text i) ≡ true) → has_line (shown text o) ≡ true
    shown_has None h = refl
    shown_has (Some i) h = h i refl

    printed_has : (n : ℕ) (m : WorkerNo) (x : Reply I) → n < 1000000000 → m.0 ≤ 64 → reply_ticket x < counter_limit → has_line (shown text (reply_item x)) ≡ true → has_line (printed text n m x) ≡ true
    printed_has n m x few low drawn has =
        cond_both (is_printed x) (call_line text n m x) (Some []) (λ y. has_line y ≡ true)
        (λ _. line_has (call_fields n m x) (shown text (reply_item x))
        (small_fits (call_fields n m x) (omega arith, omega arith, (omega arith, omega arith, (omega arith, omega (arith, reply_low x), (omega arith, omega arith, tt))))) has) (λ _. refl)

    -- whatever an answer carries can be written
    reply_has : (n : ℕ) (m : WorkerNo) (x : Reply I) → n < 1000000000 → m.0 ≤ 64
        → ((a : Answer I) → x ≡ Ok a → ((i : I) → answer_item a ≡ Some i → has_line (text i) ≡ true) × ((k : Ticket) → answer_ticket a ≡ Some k → k.0 < counter_limit)) → has_line (printed text n m x) ≡ true
    reply_has n m (Ok a) few low h = let c = h a refl in printed_has n m (Ok a) few low (number_low (answer_ticket a) c.1) (shown_has (answer_item a) c.0)
    reply_has n m (Err e) few low h = printed_has n m (Err e) few low (omega arith) refl

  module _ (text : I → Option (List ℕ)) (reading : List ℕ → Result I ColumnFault) (only : (cs : List ℕ) (x : I) → length cs ≡ 15 → reading cs ≡ Ok x → text x ≡ Some cs) (step : KindStep I)
      (origin : ItemsAssigned step) (r w : ℕ) (range : InRange r w) (orderly : (calls : List (Call I)) → Orderly (run step r w calls).table) where
    -- after m calls at most: each item assigned has a text, and each line was written
    record Fine (m : ℕ) (s : Running I) : Type 0 where
      calls : List (Call I)
      table : (run step r w calls).table ≡ s.table
      few : s.calls ≤ m
      texts : (i : I) → Assigns i calls → has_line (text i) ≡ true
      written : s.written ≡ true

    later : (m n : ℕ) (s : Running I) → m ≤ n → Fine m s → Fine n s
    later m n s h f = record { calls = f.calls; table = f.table; few = omega (arith, f.few); texts = f.texts; written = f.written }

    call_fine : (m : ℕ) (s : Running I) (c : Call I) → (caller c).0 ≤ 64 → m + 1 < 1000000000 → ((n : WorkerNo) (i : I) → c ≡ AssignEnqueue n i → has_line (text i) ≡ true) → Fine m s
        → Fine (m + 1) (performed text step s c)
    call_fine m s c low h given f =
        let new : (i : I) → Assigns i (c ∷ f.calls) → has_line (text i) ≡ true = λ i a. elim a [ inl x ↦ given x.0 i x.1 | inr y ↦ f.texts i y ] in
        let has = reply_has text (s.calls + 1) (caller c) (called step s.table c).answer (omega (arith, f.few)) low
        (λ a e. let o = origin r w range f.calls c a (ap (λ t. (called step t c).answer) f.table ∙ e) in (λ i q. new i (o.0 i q), o.1)) in
        record {
          calls = c ∷ f.calls;
          table = ap (λ t. (called step t c).table) f.table;
          few = omega (arith, f.few);
          texts = new;
          written = and_from s.written (has_line (printed text (s.calls + 1) (caller c) (called step s.table c).answer)) f.written has;
        }

    steps_fine : (m : ℕ) (n : WorkerNo) (k : ℕ) (s : Running I) → n.0 ≤ 64 → m + k < 1000000000 → Fine m s → Fine (m + k) (stepping text step n k s)
    steps_fine m n zero s low h f = later m (m + 0) s (omega arith) f
    steps_fine m n (suc k) s low h f =
        let next = call_fine m s (Step n) low (omega arith) (λ _ _ e. cc) f in
        let same : m + 1 + k ≡ m + suc k = omega arith in
        cond_both (stops (called step s.table (Step n)).answer) (performed text step s (Step n)) (stepping text step n k (performed text step s (Step n))) (Fine (m + suc k))
        (λ _. later (m + 1) (m + suc k) (performed text step s (Step n)) (omega arith) next)
        (λ _. later (m + 1 + k) (m + suc k) (stepping text step n k (performed text step s (Step n))) (omega arith) (steps_fine (m + 1) n k (performed text step s (Step n)) low (omega arith) next))

    enqueue_fine : (m : ℕ) (n : WorkerNo) (cs : List ℕ) (s : Running I) → n.0 ≤ 64 → length cs ≡ 15 → m + 1 < 1000000000 → Fine m s → (x : Result I ColumnFault) → reading cs ≡ x
        → Fine (m + 1) (enqueuing text reading step n x s)
    enqueue_fine m n cs s low wide h f (Ok i) e = call_fine m s (AssignEnqueue n i) low h (λ _ j q. let same : i ≡ j = cc in subst (λ (x : I). has_line (text x) ≡ true) same (ap has_line (only cs i wide e))) f
    enqueue_fine m n cs s low wide h f (Err x) e = later m (m + 1) s (omega arith) f

    order_fine : (items : ItemChoice) (o : PlainOrder) (m : ℕ) (s : Running I) → OrderFits items o → m + 9999 < 1000000000 → Fine m s → Fine (m + 9999) (ordered text reading step o s)
    order_fine items (enqueue n cs) m s g h f =
        later (m + 1) (m + 9999) (enqueuing text reading step n (reading cs) s) (omega arith) (enqueue_fine m n cs s g.0.1 (item_laws.wide items cs g.1) (omega arith) f (reading cs) refl)
    order_fine items (dequeue n) m s g h f = later (m + 1) (m + 9999) (performed text step s (AssignDequeue n)) (omega arith) (call_fine m s (AssignDequeue n) g.1 (omega arith) (λ _ _ e. cc) f)
    order_fine items (steps n k) m s g h f = later (m + k) (m + 9999) (stepping text step n k s) (omega (arith, g.1.1)) (steps_fine m n k s g.0.1 (omega (arith, g.1.1)) f)

    orders_fine : (items : ItemChoice) (os : List PlainOrder) (m : ℕ) (s : Running I) → OrdersFit items os → m + 9999 * length (orders_text os) < 1000000000 → Fine m s
        → Fine (m + 9999 * length (orders_text os)) (all_ordered text reading step os s)
    orders_fine items [] m s g h f = later m (m + 9999 * 0) s (omega arith) f
    orders_fine items (o ∷ os) m s g h f =
        let short = order_shorter o (orders_text (o ∷ os)) (orders_text os) refl in
        later (m + 9999 + 9999 * length (orders_text os)) (m + 9999 * length (orders_text (o ∷ os))) (all_ordered text reading step os (ordered text reading step o s)) (omega arith)
        (orders_fine items os (m + 9999) (ordered text reading step o s) g.1 (omega arith) (order_fine items o m s g.0 (omega arith) f))

    pub whole_fits : (items : ItemChoice) (os : List PlainOrder) → OrdersFit items os → length (orders_text os) ≤ 60000 → (whole_run text reading step r w os).written ≡ true
    whole_fits items os g short =
        let s = all_ordered text reading step os (starting r w) in
        let f = orders_fine items os 0 (starting r w) g (omega arith) (record { calls = []; table = refl; few = omega arith; texts = λ i a. absurd a; written = refl }) in
        and_from s.written (row_fits (table_fields s.table)) f.written (subst (λ (t : Table I). row_fits (table_fields t) ≡ true) f.table (table_fits (run step r w f.calls).table (orderly f.calls)))
