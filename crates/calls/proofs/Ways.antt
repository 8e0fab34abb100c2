-- A turn left in memory is the turn in the table; a refusal leaves what was there.
use Rattle.std.proofs.Common.{◌≡◌, ℕ, ◌-◌, ◌<◌, List, length, get_or, set, Ok, Err, Result, sym, ap, ◌∙◌, subst}
use Rattle.std.proofs.lemmas.List.{set-get_or, get_or_default}
use Rattle.tickets.specs.declared.Ticket.{Ticket}
use Rattle.tickets.specs.declared.WorkerNo.{WorkerNo}
use Rattle.tickets.specs.Places.{slot}
use Rattle.ring.specs.declared.table.Cell.{Cell}
use Rattle.ring.specs.declared.table.Worker.{Worker}
use Rattle.ring.specs.declared.table.EngineRow.{EngineRow}
use Rattle.ring.specs.declared.table.KindRow.{KindRow}
use Rattle.ring.specs.declared.table.Phase.{Phase}
use Rattle.ring.specs.declared.table.Phase.TheVariants.{Engine, Kind}
use Rattle.ring.specs.declared.answers.Answer.{Answer}
use Rattle.ring.specs.declared.answers.Refusal.{Refusal}
use Rattle.ring.specs.Table.{Counters, Table, fresh_cell, idle_worker, worker}
use Rattle.ring.specs.Phases.{engine_side, kind_side}
use Rattle.ring.specs.Turns.{Turn, Performed, KindStep}
use Rattle.ring.specs.Rows.{EngineTurn, engine_row}
use Rattle.ring.specs.Calls.{engine_turned, turned, fitting, row, stepped}
use Rattle.engine.specs.Engine.{EnginePerformed}
use Rattle.calls.specs.Turns.{EngineAt, KindAt}
use Rattle.calls.specs.Lent.{Admitted}

module _ {I : Type 0} where
  engine_left : (t : Table I) (n : WorkerNo) (x : Result (EngineTurn I) Refusal) (r : Result (Answer I) Refusal) (c : Counters) (ws : List (Worker I)) → EngineAt x t.counters t.workers (n.0 - 1) r c ws
      → record { table = record { counters = c; cells = t.cells; workers = ws }; answer = r } ≡ engine_turned t n x
  engine_left t n (Ok out) r c ws d = λ i. record { table = record { counters = d.counters i; cells = t.cells; workers = d.workers i }; answer = d.answer i }
  engine_left t n (Err y) r c ws d =
      let same : ws ≡ t.workers = d.workers ∙ set-get_or t.workers (n.0 - 1) idle_worker in
      λ i. record { table = record { counters = d.counters i; cells = t.cells; workers = same i }; answer = d.answer i }

  kind_left : (t : Table I) (n : WorkerNo) (k : Ticket) (x : Result (Turn I) Refusal) (r : Result (Answer I) Refusal) (cs : List (Cell I)) (ws : List (Worker I))
      → KindAt x t.cells t.workers (slot t.counters.cells k) (n.0 - 1) r cs ws → record { table = record { counters = t.counters; cells = cs; workers = ws }; answer = r } ≡ turned t n k x
  kind_left t n k (Ok out) r cs ws d = λ i. record { table = record { counters = t.counters; cells = d.cells i; workers = d.workers i }; answer = d.answer i }
  kind_left t n k (Err y) r cs ws d =
      let same : ws ≡ t.workers = d.workers ∙ set-get_or t.workers (n.0 - 1) idle_worker in
      let kept : cs ≡ t.cells = d.cells ∙ set-get_or t.cells (slot t.counters.cells k) fresh_cell in
      λ i. record { table = record { counters = t.counters; cells = kept i; workers = same i }; answer = d.answer i }

  -- the row of a phase of the engine, and of a phase of the kind
  pub row_engine : (step : KindStep I) (t : Table I) (n : WorkerNo) (p : Phase) (e : EngineRow) (r : Result (Answer I) Refusal) (c : Counters) (ws : List (Worker I)) → Engine e ≡ p
      → EngineAt (fitting (worker t n) (engine_side e) (engine_row t.counters (worker t n) e)) t.counters t.workers (n.0 - 1) r c ws
      → record { table = record { counters = c; cells = t.cells; workers = ws }; answer = r } ≡ row step t n (worker t n) p
  row_engine step t n p e r c ws h d = engine_left t n _ r c ws d ∙ ap (row step t n (worker t n)) h

  pub row_kind : (step : KindStep I) (t : Table I) (n : WorkerNo) (p : Phase) (k : KindRow) (j : ℕ) (r : Result (Answer I) Refusal) (cs : List (Cell I)) (ws : List (Worker I)) → Kind k ≡ p
      → j ≡ slot t.counters.cells (worker t n).ticket
      → KindAt (fitting (worker t n) (kind_side k) (step t.counters.cells t.counters.head n (worker t n) (get_or t.cells j fresh_cell))) t.cells t.workers j (n.0 - 1) r cs ws
      → record { table = record { counters = t.counters; cells = cs; workers = ws }; answer = r } ≡ row step t n (worker t n) p
  row_kind step t n p k j r cs ws h e d =
      kind_left t n (worker t n).ticket _ r cs ws
      (subst (λ y. KindAt (fitting (worker t n) (kind_side k) (step t.counters.cells t.counters.head n (worker t n) (get_or t.cells y fresh_cell))) t.cells t.workers y (n.0 - 1) r cs ws) e d)
      ∙ ap (row step t n (worker t n)) h

  -- a turn on the record and the cell that stand at indices, whatever is read past the end
  pub engine_put : (f : Worker I → Result (EngineTurn I) Refusal) (c c' : Counters) (ws : List (Worker I)) (at : ℕ) (d w' : Worker I) (r : Result (Answer I) Refusal) → at < length ws
      → EnginePerformed (f (get_or ws at d)) c (get_or ws at d) r c' w' → EngineAt (f (get_or ws at idle_worker)) c ws at r c' (set ws at w')
  engine_put f c c' ws at d w' r h p =
      let q : EnginePerformed (f (get_or ws at idle_worker)) c (get_or ws at idle_worker) r c' w' = subst (λ x. EnginePerformed (f x) c x r c' w') (get_or_default ws at d idle_worker h) p in
      record { answer = q.answer; counters = q.counters; workers = ap (set ws at) q.worker }

  pub kind_put : (f : Worker I → Cell I → Result (Turn I) Refusal) (cs : List (Cell I)) (ws : List (Worker I)) (k at : ℕ) (e s' : Cell I) (d w' : Worker I) (r : Result (Answer I) Refusal)
      → k < length cs → at < length ws → Performed (f (get_or ws at d) (get_or cs k e)) (get_or ws at d) (get_or cs k e) r w' s'
      → KindAt (f (get_or ws at idle_worker) (get_or cs k fresh_cell)) cs ws k at r (set cs k s') (set ws at w')
  kind_put f cs ws k at e s' d w' r hk hw p =
      let q : Performed (f (get_or ws at idle_worker) (get_or cs k fresh_cell)) (get_or ws at idle_worker) (get_or cs k fresh_cell) r w' s' =
      subst (λ x. Performed (f x (get_or cs k fresh_cell)) x (get_or cs k fresh_cell) r w' s') (get_or_default ws at d idle_worker hw)
      (subst (λ y. Performed (f (get_or ws at d) y) (get_or ws at d) y r w' s') (get_or_default cs k e fresh_cell hk) p)
      in
      record { answer = q.answer; cells = ap (set cs k) q.cell; workers = ap (set ws at) q.worker }

  -- the step of a worker at a row of the engine, and at a row of the kind; what is read past the end does not matter
  pub engine_done : (step : KindStep I) (t : Table I) (n : WorkerNo) (at : ℕ) (c d : Worker I) (e : EngineRow) (r : Result (Answer I) Refusal) (c' : Counters) (w' : Worker I)
      → Admitted t n at → (get_or t.workers at c).phase ≡ Engine e
      → EnginePerformed (fitting (get_or t.workers at d) (engine_side e) (engine_row t.counters (get_or t.workers at d) e)) t.counters (get_or t.workers at d) r c' w'
      → record { table = record { counters = c'; cells = t.cells; workers = set t.workers at w' }; answer = r } ≡ stepped step t n
  engine_done step t n at c d e r c' w' h ph p =
      let q = engine_put (λ w. fitting w (engine_side e) (engine_row t.counters w e)) t.counters c' t.workers at d w' r h.inside p in
      let here =
      row_engine step t n (worker t n).phase e r c' (set t.workers at w')
      (subst (λ a. Engine e ≡ (get_or t.workers a idle_worker).phase) h.index (sym ph ∙ ap (λ w. w.phase) (get_or_default t.workers at c idle_worker h.inside)))
      (subst (λ a. EngineAt (fitting (get_or t.workers a idle_worker) (engine_side e) (engine_row t.counters (get_or t.workers a idle_worker) e)) t.counters t.workers a r c' (set t.workers at w')) h.index q)
      in
      here ∙ sym (h.goes_on (row step t n (worker t n) (worker t n).phase))

  pub kind_done : (step : KindStep I) (t : Table I) (n : WorkerNo) (at j : ℕ) (a b c : Worker I) (e : Cell I) (k : KindRow) (r : Result (Answer I) Refusal) (s' : Cell I) (w' : Worker I)
      → Admitted t n at → (get_or t.workers at a).phase ≡ Kind k → j ≡ slot t.counters.cells (get_or t.workers at b).ticket → j < length t.cells
      → Performed (fitting (get_or t.workers at c) (kind_side k) (step t.counters.cells t.counters.head n (get_or t.workers at c) (get_or t.cells j e))) (get_or t.workers at c) (get_or t.cells j e) r w' s'
      → record { table = record { counters = t.counters; cells = set t.cells j s'; workers = set t.workers at w' }; answer = r } ≡ stepped step t n
  kind_done step t n at j a b c e k r s' w' h ph o hj p =
      let one = λ (x : Worker I). get_or_default t.workers at x idle_worker h.inside in
      let turn : Worker I → Cell I → Result (Turn I) Refusal = λ w s. fitting w (kind_side k) (step t.counters.cells t.counters.head n w s) in
      let q = kind_put turn t.cells t.workers j at e s' c w' r hj h.inside p in
      let here =
      row_kind step t n (worker t n).phase k j r (set t.cells j s') (set t.workers at w')
      (subst (λ x. Kind k ≡ (get_or t.workers x idle_worker).phase) h.index (sym ph ∙ ap (λ w. w.phase) (one a)))
      (subst (λ x. j ≡ slot t.counters.cells (get_or t.workers x idle_worker).ticket) h.index (o ∙ ap (λ w. slot t.counters.cells w.ticket) (one b)))
      (subst (λ x. KindAt (turn (get_or t.workers x idle_worker) (get_or t.cells j fresh_cell)) t.cells t.workers j x r (set t.cells j s') (set t.workers at w')) h.index q)
      in
      here ∙ sym (h.goes_on (row step t n (worker t n) (worker t n).phase))
