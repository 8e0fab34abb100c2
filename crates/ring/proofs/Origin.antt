-- A ring invents no item and no ticket: what records and cells hold was assigned, and so is what answers carry.
use Rattle.std.proofs.Common.{◌≡◌, ℕ, ◌<◌, true, List, [], ◌∷◌, get_or, Some, Ok, sym, refl, ap, ◌∙◌, subst, inl, inr, arith}
use Rattle.tickets.specs.declared.Ticket.{Ticket}
use Rattle.tickets.specs.declared.WorkerNo.{WorkerNo}
use Rattle.tickets.specs.Places.{slot}
use Rattle.ring.specs.declared.table.Worker.{Worker}
use Rattle.ring.specs.declared.table.Value.TheVariants.{Item}
use Rattle.ring.specs.declared.table.Side.{Side}
use Rattle.ring.specs.declared.table.Side.TheVariants.{Neither, Enqueuing, Dequeuing}
use Rattle.ring.specs.declared.answers.Answer.{Answer}
use Rattle.ring.specs.declared.answers.Answer.TheVariants.{Working, Placed, Taken, PassedOver}
use Rattle.ring.specs.declared.call.Call.{Call}
use Rattle.ring.specs.declared.call.Call.TheVariants.{AssignEnqueue}
use Rattle.ring.specs.Table.{Counters, Table, InRange, counter_limit, fresh_cell, laid_out, worker, cell, Held}
use Rattle.ring.specs.Phases.{side}
use Rattle.ring.specs.Answers.{answer_ticket, answer_item}
use Rattle.ring.specs.Turns.{Turn, KindStep}
use Rattle.ring.specs.Calls.{Outcome, is_worker, called}
use Rattle.ring.specs.Ledger.{run}
use Rattle.ring.specs.Laws.{Reached, Turned, Kept, EnqueueTurn, DequeueTurn, item_of, TurnOf, TouchesItsOwn, PlacesFree, TakesHeld, LeavesItems, then_table}
use Rattle.ring.specs.Origin.{Assigns, ItemsAssigned}
use Rattle.ring.proofs.Values.{item_back}
use Rattle.ring.proofs.Moves.{Move, move_from, Found, move_counters, move_worker, move_answer, move_call, gets_enqueue, gets_dequeue, draws_tail, finds_open, finds_closed, finds_room, finds_full, shuts, draws_head, finds_more, finds_empty}
use Rattle.ring.proofs.Comes.{Comes, call_comes, refuses, moves, turns}
use Rattle.ring.proofs.Orderly.{Orderly, drawn}
use Rattle.ring.proofs.Writes.{each_put, cell_here}
use Rattle.ring.proofs.New.{new_worker, new_cell}
use Rattle.ring.proofs.Tickets.{move_grows}
use Rattle.ring.proofs.Lawful.{OfReached}
use Rattle.ring.proofs.Induction.{reached_orderly, each_worker_after, each_cell_after}
use Rattle.ring.proofs.Led.{run_led}

module _ {I : Type 0} where
  -- every item in the records and the cells is one of P
  pub record AllOf (P : I → Type 0) (t : Table I) : Type 0 where
    pub records : (n : WorkerNo) → is_worker t n ≡ true → (i : I) → (worker t n).item ≡ Some i → P i
    pub cells : (k : Ticket) (i : I) → (cell t k).value ≡ Item i → P i

  -- whichever item an answer carries is one of P, and whichever ticket it carries is below the limit
  pub record Carries (P : I → Type 0) (a : Answer I) : Type 0 where
    pub item : (i : I) → answer_item a ≡ Some i → P i
    pub ticket : (k : Ticket) → answer_ticket a ≡ Some k → k.0 < counter_limit

  drawn_below : (t : Table I) → Orderly t → (n : WorkerNo) → is_worker t n ≡ true → (x : Side) → drawn (worker t n).phase ≡ x → (x ≡ Neither → ⊥) → (worker t n).ticket.0 < counter_limit
  drawn_below t o n b Neither e h = absurd (h refl)
  drawn_below t o n b Enqueuing e h = let r = o.enqueues n b e in omega (arith, o.tail_to)
  drawn_below t o n b Dequeuing e h = let r = o.dequeues n b e in omega (arith, o.head_to)

  module _ (P : I → Type 0) where
    all_new : (r w : ℕ) → InRange r w → AllOf P (laid_out r w)
    all_new r w h =
        record {
          records = λ n b i e. let q = new_worker {I = I} r w n b in cc;
          cells = λ k i e. let q = new_cell {I = I} r w k h.0 in cc;
        }

    -- the record after a move of the engine
    move_record : (m : Move I) (n : WorkerNo) (c : Counters) (w : Worker I) → ((i : I) → move_call m n ≡ AssignEnqueue n i → P i) → ((i : I) → w.item ≡ Some i → P i)
        → (i : I) → (move_worker m c w).item ≡ Some i → P i
    move_record (gets_enqueue j) n c w new old i e = new i (cc)
    move_record gets_dequeue n c w new old i e = cc
    move_record draws_tail n c w new old i e = old i e
    move_record finds_open n c w new old i e = old i e
    move_record (finds_closed j) n c w new old i e = cc
    move_record finds_room n c w new old i e = old i e
    move_record finds_full n c w new old i e = old i e
    move_record (shuts j) n c w new old i e = cc
    move_record draws_head n c w new old i e = old i e
    move_record finds_more n c w new old i e = old i e
    move_record finds_empty n c w new old i e = cc

    carries_none : {a : Answer I} → ((i : I) → answer_item a ≡ Some i → ⊥) → ((k : Ticket) → answer_ticket a ≡ Some k → ⊥) → Carries P a
    carries_none f g = record { item = λ i e. absurd (f i e); ticket = λ k e. absurd (g k e) }

    -- the ticket of an answer is its worker's
    carried : (l : Ticket) → l.0 < counter_limit → (k : Ticket) → Some l ≡ Some k → k.0 < counter_limit
    carried l h k e = let q : l ≡ k = cc in subst (λ (y : Ticket). y.0 < counter_limit) q h

    move_carries : (m : Move I) (c : Counters) (w : Worker I) → w.phase ≡ move_from m → Found m c w → ((i : I) → w.item ≡ Some i → P i)
        → ((drawn w.phase ≡ Neither → ⊥) → w.ticket.0 < counter_limit) → Carries P (move_answer m w)
    move_carries (gets_enqueue j) c w p f old low = carries_none (λ i e. cc) (λ k e. cc)
    move_carries gets_dequeue c w p f old low = carries_none (λ i e. cc) (λ k e. cc)
    move_carries draws_tail c w p f old low = carries_none (λ i e. cc) (λ k e. cc)
    move_carries finds_open c w p f old low = carries_none (λ i e. cc) (λ k e. cc)
    move_carries (finds_closed j) c w p f old low =
        record { item = λ i e. old i (cc f.1); ticket = carried w.ticket (low (λ z. let d = ap drawn p in cc)) }
    move_carries finds_room c w p f old low = carries_none (λ i e. cc) (λ k e. cc)
    move_carries finds_full c w p f old low = carries_none (λ i e. cc) (λ k e. cc)
    move_carries (shuts j) c w p f old low =
        record { item = λ i e. old i (cc (f)); ticket = carried w.ticket (low (λ z. let d = ap drawn p in cc)) }
    move_carries draws_head c w p f old low = carries_none (λ i e. cc) (λ k e. cc)
    move_carries finds_more c w p f old low = carries_none (λ i e. cc) (λ k e. cc)
    move_carries finds_empty c w p f old low =
        record { item = λ i e. cc; ticket = carried w.ticket (low (λ z. let d = ap drawn p in cc)) }

  -- what a turn of a ring kind leaves
  pub record Leaves (P : I → Type 0) (out : Turn I) : Type 0 where
    pub worker : (i : I) → out.worker.item ≡ Some i → P i
    pub cell : (i : I) → out.cell.value ≡ Item i → P i
    pub answer : Carries P out.answer

module _ {I : Type 0} (step : KindStep I) (held : Table I → Ticket → I → Type 0) (barred : Table I → Ticket → Type 0)
    (meaning : (t : Table I) (k : Ticket) (i : I) → (held t k i → Held t k i) × (Held t k i → held t k i)) (touches : OfReached step (TouchesItsOwn step))
    (places : OfReached step (PlacesFree step held barred)) (takes : OfReached step (TakesHeld step held barred)) (keeps : OfReached step (LeavesItems step held barred)) where
  module _ (P : I → Type 0) (t : Table I) (r : Reached step t) (all : AllOf P t) where
    module _ (n : WorkerNo) (out : Turn I) (d : Turned step t n out) (low : (worker t n).ticket.0 < counter_limit) where
      -- the cell keeps its item where the answer is neither placed nor taken
      cell_keeps : (a : Answer I) → out.answer ≡ a → ((k : Ticket) (i : I) → a ≡ Placed k i → ⊥) → ((k : Ticket) (i : I) → a ≡ Taken k i → ⊥) → (i : I) → out.cell.value ≡ Item i → P i
      cell_keeps a e p q i v =
          let same = (keeps t r n out d (λ k j x. p k j (sym e ∙ x), λ k j x. q k j (sym e ∙ x))).0 in
          all.cells (worker t n).ticket i (item_back (cell t (worker t n).ticket).value i (sym same ∙ ap item_of v))

      worker_keeps : out.worker.item ≡ (worker t n).item → (i : I) → out.worker.item ≡ Some i → P i
      worker_keeps k i e = all.records n d.there i (sym k ∙ e)

      answers : (a : Answer I) → out.answer ≡ a → Carries P a → Carries P out.answer
      answers a e = subst (Carries P) (sym e)

      working : out.answer ≡ Working → Kept (worker t n) out.worker → Leaves P out
      working a k =
          record {
            worker = worker_keeps k.item;
            cell = cell_keeps Working a (λ _ _ x. cc) (λ _ _ x. cc);
            answer = answers Working a (carries_none P (λ i e. cc) (λ l e. cc));
          }

      turn_leaves : (x : Side) → TurnOf x (worker t n) out → Leaves P out
      turn_leaves Neither y = absurd y
      turn_leaves Enqueuing (EnqueueTurn.went_on a k row p q) = working a k
      turn_leaves Enqueuing (EnqueueTurn.gave_up a k p) = working a k
      turn_leaves Enqueuing (EnqueueTurn.did_place i it a f) =
          let own = all.records n d.there i it in
          let o = reached_orderly step touches t r in
          let here = ((meaning (then_table t n out) (worker t n).ticket i).0 (places t r n out (worker t n).ticket i d a).2).0 in
          let is = cell_here t o (worker t n).ticket out.cell n out.worker (worker t n).ticket refl in
          record {
            worker = λ j e. cc;
            cell = λ j e. let q : i ≡ j = cc in subst P q own;
            answer = answers (Placed (worker t n).ticket i) a (record { item = λ j e. let q : i ≡ j = cc in subst P q own; ticket = carried P (worker t n).ticket low });
          }
      turn_leaves Dequeuing (DequeueTurn.went_on a k row p q) = working a k
      turn_leaves Dequeuing (DequeueTurn.did_pass a k p) =
          record {
            worker = worker_keeps k.item;
            cell = cell_keeps (PassedOver (worker t n).ticket) a (λ _ _ x. cc) (λ _ _ x. cc);
            answer = answers (PassedOver (worker t n).ticket) a (record { item = λ j e. cc; ticket = carried P (worker t n).ticket low });
          }
      turn_leaves Dequeuing (DequeueTurn.did_take i a f) =
          let l = takes t r n out (worker t n).ticket i d a in
          let own = all.cells (worker t n).ticket i ((meaning t (worker t n).ticket i).0 l.0).0 in
          record {
            worker = λ j e. cc;
            cell = λ j e. let v = l.1 in cc;
            answer = answers (Taken (worker t n).ticket i) a (record { item = λ j e. let q : i ≡ j = cc in subst P q own; ticket = carried P (worker t n).ticket low });
          }

    -- after a call that assigns items of P alone, the table has items of P alone, and so has the answer
    call_leaves : (c : Call I) → ((n : WorkerNo) (i : I) → c ≡ AssignEnqueue n i → P i) → (x : Outcome I) → Comes step t c x
        → AllOf P x.table × ((a : Answer I) → x.answer ≡ Ok a → Carries P a)
    call_leaves c given x (refuses y e) = (subst (λ (z : Outcome I). AllOf P z.table) (sym e) all, λ a f. cc)
    call_leaves c given x (moves n m d f e) =
        let o = reached_orderly step touches t r in
        let counters = move_counters m t.counters in
        let w = move_worker m t.counters (worker t n) in
        let grows = move_grows m t.counters (worker t n) d.found in
        let new = move_record P m n t.counters (worker t n) (λ i g. given n i (f ∙ g)) (all.records n d.there) in
        let answer = move_carries P m t.counters (worker t n) d.standing d.found (all.records n d.there) (drawn_below t o n d.there (drawn (worker t n).phase) refl) in (
          subst (λ (z : Outcome I). AllOf P z.table) (sym e) (record {
            records = λ k b. each_put t o counters t.cells n d.there w (λ _ v. (i : I) → v.item ≡ Some i → P i) new (λ j g _. all.records j g) k (rw grows.crew at b);
            cells = λ k i v. all.cells k i (ap (λ j. (get_or t.cells (slot j k) fresh_cell).value) (sym grows.ring) ∙ v);
          }),
          λ a g. let q : move_answer m (worker t n) ≡ a = cc in subst (Carries P) q answer,
        )
    call_leaves c given x (turns n out d f e) =
        let o = reached_orderly step touches t r in
        let own = (touches t r).0 n out d in
        let low : (worker t n).ticket.0 < counter_limit =
        drawn_below t o n d.there (side (worker t n).phase) (ap drawn d.inside ∙ sym (ap side d.inside)) (λ z. subst (λ (x : Side). TurnOf x (worker t n) out) z own) in
        let y : Leaves P out = turn_leaves n out d low (side (worker t n).phase) own in (
          subst (λ (z : Outcome I). AllOf P z.table) (sym e) (record {
            records = each_worker_after step t o n out d (λ _ v. (i : I) → v.item ≡ Some i → P i) y.worker (λ j g _. all.records j g);
            cells = each_cell_after step t o n out d (λ _ v. (i : I) → v.value ≡ Item i → P i) (λ _ _. y.cell) (λ k _. all.cells k);
          }),
          λ a g. let q : out.answer ≡ a = cc in subst (Carries P) q y.answer,
        )

  module _ (r w : ℕ) (h : InRange r w) where
    run_reached : (calls : List (Call I)) → Reached step (run step r w calls).table
    run_reached calls = record { ring = r; crew = w; in_range = h; calls = calls; led = run_led step r w calls }

    -- one call more of a run whose items were assigned
    more_assigned : (calls : List (Call I)) → AllOf (λ i. Assigns i calls) (run step r w calls).table → (c : Call I)
        → AllOf (λ i. Assigns i (c ∷ calls)) (run step r w (c ∷ calls)).table × ((a : Answer I) → (called step (run step r w calls).table c).answer ≡ Ok a → Carries (λ i. Assigns i (c ∷ calls)) a)
    more_assigned calls all c =
        call_leaves (λ i. Assigns i (c ∷ calls)) (run step r w calls).table (run_reached calls) (record { records = λ n b i e. inr (all.records n b i e); cells = λ k i e. inr (all.cells k i e) }) c
        (λ n i e. inl (n, e)) (called step (run step r w calls).table c) (call_comes step (run step r w calls).table c)

    run_assigned : (calls : List (Call I)) → AllOf (λ i. Assigns i calls) (run step r w calls).table
    run_assigned [] = all_new (λ i. Assigns i []) r w h
    run_assigned (c ∷ cs) = (more_assigned cs (run_assigned cs) c).0

  pub items_assigned : ItemsAssigned step
  items_assigned r w h calls call a e =
      let x = (more_assigned r w h calls (run_assigned r w h calls) call).1 a e in
      (x.item, x.ticket)

-- every table of a run is orderly
pub run_orderly : {I : Type 0} (step : KindStep I) → OfReached step (TouchesItsOwn step) → (r w : ℕ) → InRange r w → (calls : List (Call I)) → Orderly (run step r w calls).table
run_orderly step touches r w h calls = reached_orderly step touches (run step r w calls).table (record { ring = r; crew = w; in_range = h; calls = calls; led = run_led step r w calls })
