-- One worker stepped alone, while the others are idle.
use Rattle.std.proofs.Common.{◌≡◌, ℕ, ◌+◌, ◌-◌, ◌%◌, ◌<◌, true, false, ◌&&◌, eqb, leb, List, length, get_or, set, replicate, Some, None, Ok, refl, ap, ◌∙◌, inl, inr, mod-lt, arith, length-set}
use lib.ListN.{length-replicate}
use Rattle.std.proofs.lemmas.List.{get_or-set_same, get_or-set_other, get_or-replicate, get_or_past}
use Rattle.std.proofs.lemmas.Bool.{leb-true, cases_eq, cases_lt, eq-eqb, ne_eqb, lt-ltb, cond-true, cond-false, and_parts, and_from}
use Rattle.tickets.specs.declared.WorkerNo.{WorkerNo}
use Rattle.ring.specs.declared.table.Cell.{Cell}
use Rattle.ring.specs.declared.table.Worker.{Worker}
use Rattle.ring.specs.declared.table.Value.TheVariants.{Empty}
use Rattle.ring.specs.declared.table.EngineRow.{EngineRow}
use Rattle.ring.specs.declared.table.EngineRow.TheVariants.{E1, E2, D1}
use Rattle.ring.specs.declared.table.KindRow.{KindRow}
use Rattle.ring.specs.declared.table.KindRow.TheVariants.{E3, D2}
use Rattle.ring.specs.declared.table.Phase.TheVariants.{Engine, Kind}
use Rattle.ring.specs.declared.answers.Answer.{Answer}
use Rattle.ring.specs.declared.answers.Answer.TheVariants.{Assigned, Working}
use Rattle.ring.specs.declared.call.Call.TheVariants.{AssignEnqueue, AssignDequeue, Step}
use Rattle.ring.specs.Table.{Counters, Table, InRange, counter_limit, ticket, idle_pair, fresh_cell, idle_worker, laid_out}
use Rattle.ring.specs.Phases.{engine_side, kind_side, is_idle}
use Rattle.ring.specs.Turns.{Turn, KindStep}
use Rattle.ring.specs.Rows.{EngineTurn, engine_row}
use Rattle.ring.specs.Calls.{Outcome, moved, engine_turned, turned, counts_agree, is_worker, for_worker, starting, fit, fitting, row, called}
use Rattle.ring.specs.Laws.{alone}

abbrev pub counted : ℕ → ℕ → ℕ → ℕ → Counters
counted r w h l = record { cells = r; workers = w; head = h; tail = l; closed = false }

module _ {I : Type 0} where
  -- an enqueue and a dequeue with the first ticket of a ring of r cells, as they come to the kind
  abbrev pub enqueue_in : ℕ → I → Worker I
  enqueue_in r i = record { phase = Kind E3; ticket = ticket r; item = Some i; pair = idle_pair; value = Empty }

  abbrev pub dequeue_in : ℕ → Worker I
  dequeue_in r = record { phase = Kind D2; ticket = ticket r; item = None; pair = idle_pair; value = Empty }

  -- a table on which the others are idle: the worker n has the record v, and the first ticket's cell is c
  pub record Stands (r w h l : ℕ) (n : WorkerNo) (t : Table I) (v : Worker I) (c : Cell I) : Type 0 where
    pub cells : List (Cell I)
    pub workers : List (Worker I)
    pub is : t ≡ record { counters = counted r w h l; cells = cells; workers = workers }
    pub ring : length cells ≡ r
    pub crew : length workers ≡ w
    pub there : (leb 1 n.0 && leb n.0 w) ≡ true
    pub has : get_or workers (n.0 - 1) idle_worker ≡ v
    pub holds : get_or cells (r % r) fresh_cell ≡ c
    pub others : (j : ℕ) → (j ≡ n.0 - 1 → ⊥) → get_or workers j idle_worker ≡ idle_worker

  module _ (step : KindStep I) (r w : ℕ) (range : InRange r w) where
    module _ (h l : ℕ) (n : WorkerNo) (t : Table I) (v : Worker I) (c : Cell I) (s : Stands r w h l n t v c) where
      abbrev tab : Table I
      tab = record { counters = counted r w h l; cells = s.cells; workers = s.workers }

      open_to : (x : Outcome I) → for_worker tab n x ≡ x
      open_to x =
          cond-true (counts_agree tab) _ _ (and_from (eqb (length s.cells) r) (eqb (length s.workers) w) (eq-eqb _ _ s.ring) (eq-eqb _ _ s.crew))
          ∙ cond-true (is_worker tab n) _ _ s.there

      step_is : called step t (Step n) ≡ row step tab n v v.phase
      step_is = ap (λ y. called step y (Step n)) s.is ∙ (open_to _ ∙ ap (λ (y : Worker I). row step tab n y y.phase) s.has)

      -- the worker's record, the ticket's cell and the counters change
      then_stands : (h' l' : ℕ) (v' : Worker I) (c' : Cell I) (cs : List (Cell I)) (x : Table I) → length cs ≡ r → get_or cs (r % r) fresh_cell ≡ c'
          → x ≡ record { counters = counted r w h' l'; cells = cs; workers = set s.workers (n.0 - 1) v' } → Stands r w h' l' n x v' c'
      then_stands h' l' v' c' cs x e f g =
          let p = and_parts (leb 1 n.0) (leb n.0 w) s.there in
          let a = leb-true 1 n.0 p.0 in
          let b = leb-true n.0 w p.1 in
          record {
            cells = cs;
            workers = set s.workers (n.0 - 1) v';
            is = g;
            ring = e;
            crew = length-set s.workers (n.0 - 1) v' ∙ s.crew;
            there = s.there;
            has = get_or-set_same s.workers (n.0 - 1) v' idle_worker (omega (arith, s.crew));
            holds = f;
            others = λ j k. get_or-set_other s.workers (n.0 - 1) j v' idle_worker k ∙ s.others j k;
          }

      move_stands : (h' l' : ℕ) (v' : Worker I) (a : Answer I) (x : Outcome I) → x ≡ moved tab (counted r w h' l') n v' a → Stands r w h' l' n x.table v' c
      move_stands h' l' v' a x e = then_stands h' l' v' c s.cells x.table s.ring s.holds (ap (λ (y : Outcome I). y.table) e)

      engine_is : (e : EngineRow) (out : EngineTurn I) → v.phase ≡ Engine e → fit v (engine_side e) ≡ true → engine_row (counted r w h l) v e ≡ Ok out
          → called step t (Step n) ≡ moved tab out.counters n out.worker out.answer
      engine_is e out p f x = step_is ∙ (ap (row step tab n v) p ∙ ap (engine_turned tab n) (cond-true (fit v (engine_side e)) _ _ f ∙ x))

      pub turn_is : (k : KindRow) (out : Turn I) → v.phase ≡ Kind k → v.ticket ≡ ticket r → fit v (kind_side k) ≡ true → step r h n v c ≡ Ok out
          → called step t (Step n) ≡ turned tab n (ticket r) (Ok out)
      turn_is k out p q f e =
          step_is
          ∙ (ap (row step tab n v) p
          ∙ ((λ i. turned tab n (q i) (fitting v (kind_side k) (step r h n v (get_or s.cells ((q i).0 % r) fresh_cell))))
          ∙ ap (turned tab n (ticket r)) (cond-true (fit v (kind_side k)) _ _ f ∙ (ap (step r h n v) s.holds ∙ e))))

      pub turn_stands : (out : Turn I) (x : Outcome I) → x ≡ turned tab n (ticket r) (Ok out) → Stands r w h l n x.table out.worker out.cell
      turn_stands out x e =
          let z : 0 < r = omega (arith, range.0) in
          let m = mod-lt r z in
          then_stands h l out.worker out.cell (set s.cells (r % r) out.cell) x.table (length-set s.cells (r % r) out.cell ∙ s.ring)
          (get_or-set_same s.cells (r % r) out.cell fresh_cell (omega (arith, s.ring))) (ap (λ (y : Outcome I). y.table) e)

    pub new_stands : (n : WorkerNo) → is_worker (laid_out {I = I} r w) n ≡ true → Stands r w r r n (laid_out r w) idle_worker fresh_cell
    new_stands n b =
        let z : 0 < r = omega (arith, range.0) in
        record {
          cells = replicate r fresh_cell;
          workers = replicate w idle_worker;
          is = refl;
          ring = length-replicate r _;
          crew = length-replicate w _;
          there = b;
          has = idle (n.0 - 1);
          holds = get_or-replicate r (r % r) fresh_cell fresh_cell (mod-lt r z);
          others = λ j _. idle j;
        }
      where
        idle : (j : ℕ) → get_or (replicate w (idle_worker {I = I})) j idle_worker ≡ idle_worker
        idle j =
            elim (cases_lt j w) [
              | inl g ↦ get_or-replicate w j idle_worker idle_worker g
              | inr g ↦ get_or_past (replicate w idle_worker) j idle_worker (simp length-replicate g)
            ]

    -- once the worker n is idle, so is every worker
    pub hands_over : (h l : ℕ) (n m : WorkerNo) (t : Table I) (c : Cell I) → is_worker (laid_out {I = I} r w) m ≡ true → Stands r w h l n t idle_worker c → Stands r w h l m t idle_worker c
    hands_over h l n m t c b s =
        record { cells = s.cells; workers = s.workers; is = s.is; ring = s.ring; crew = s.crew; there = b; has = idle (m.0 - 1); holds = s.holds; others = λ j _. idle j }
      where
        idle : (j : ℕ) → get_or s.workers j idle_worker ≡ idle_worker
        idle j =
            elim (cases_eq j (n.0 - 1)) [
              | inl e ↦ ap (λ k. get_or s.workers k idle_worker) e ∙ s.has
              | inr e ↦ s.others j e
            ]

    pub enqueue_comes : (n : WorkerNo) (t : Table I) (c : Cell I) (i : I) → Stands r w r r n t idle_worker c
        → Stands r w r (r + 1) n (alone step (called step t (AssignEnqueue n i)).table n 2).table (enqueue_in r i) c
    enqueue_comes n t c i s =
        let given : Stands r w r r n (called step t (AssignEnqueue n i)).table (starting (Engine E1) (Some i)) c =
        move_stands r r n t idle_worker c s r r _ Assigned (called step t (AssignEnqueue n i))
        (ap (λ y. called step y (AssignEnqueue n i)) s.is ∙ (open_to r r n t idle_worker c s _ ∙ cond-true _ _ _ (ap (λ (y : Worker I). is_idle y.phase) s.has)))
        in
        let drawn : Stands r w r (r + 1) n (alone step (called step t (AssignEnqueue n i)).table n 1).table (record { phase = Engine E2; ticket = ticket r; item = Some i; pair = idle_pair; value = Empty }) c =
        move_stands r r n _ _ c given r (r + 1) _ Working _ (engine_is r r n _ _ c given E1 _ refl refl (cond-false _ _ _ (ne_eqb r counter_limit (λ e. omega (arith, range)))))
        in
        move_stands r (r + 1) n _ _ c drawn r (r + 1) _ Working _ (engine_is r (r + 1) n _ _ c drawn E2 _ refl (and_from _ _ (lt-ltb r counter_limit (omega (arith, range))) refl) refl)

    pub dequeue_comes : (l : ℕ) (n : WorkerNo) (t : Table I) (c : Cell I) → Stands r w r l n t idle_worker c
        → Stands r w (r + 1) l n (alone step (called step t (AssignDequeue n)).table n 1).table (dequeue_in r) c
    dequeue_comes l n t c s =
        let given : Stands r w r l n (called step t (AssignDequeue n)).table (starting (Engine D1) None) c =
        move_stands r l n t idle_worker c s r l _ Assigned (called step t (AssignDequeue n))
        (ap (λ y. called step y (AssignDequeue n)) s.is ∙ (open_to r l n t idle_worker c s _ ∙ cond-true _ _ _ (ap (λ (y : Worker I). is_idle y.phase) s.has)))
        in
        move_stands r l n _ _ c given (r + 1) l _ Working _ (engine_is r l n _ _ c given D1 _ refl refl (cond-false _ _ _ (ne_eqb r counter_limit (λ e. omega (arith, range)))))
