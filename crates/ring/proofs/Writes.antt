-- A table after a write: what is written is read back, and all else is as it was.
use Rattle.std.proofs.Common.{◌≡◌, ◌-◌, ◌<◌, true, ◌⊎◌, List, length, get_or, set, sym, ap, ◌∙◌, subst, inl, inr, mod-lt, arith}
use Rattle.std.proofs.lemmas.List.{get_or-set_same, get_or-set_other}
use Rattle.std.proofs.lemmas.Bool.{cases_eq}
use Rattle.tickets.specs.declared.Ticket.{Ticket}
use Rattle.tickets.specs.declared.WorkerNo.{WorkerNo}
use Rattle.tickets.specs.Places.{slot}
use Rattle.ring.specs.declared.table.Cell.{Cell}
use Rattle.ring.specs.declared.table.Worker.{Worker}
use Rattle.ring.specs.Table.{Counters, Table, fresh_cell, idle_worker, worker, cell}
use Rattle.ring.specs.Calls.{is_worker}
use Rattle.ring.proofs.Equals.{same_number}
use Rattle.ring.proofs.Orderly.{Orderly, worker_range}

module _ {I : Type 0} where
  -- one worker's record is set, and the counters and the cells are replaced
  abbrev pub put : Table I → Counters → List (Cell I) → WorkerNo → Worker I → Table I
  put t c cs n w = record { counters = c; cells = cs; workers = set t.workers (n.0 - 1) w }

  module _ (t : Table I) (o : Orderly t) (c : Counters) (cs : List (Cell I)) (n : WorkerNo) (there : is_worker t n ≡ true) (w : Worker I) where
    pub put_same : worker (put t c cs n w) n ≡ w
    put_same = let r = worker_range t n there in get_or-set_same t.workers (n.0 - 1) w idle_worker (omega arith)

    pub put_other : (m : WorkerNo) → (m.0 - 1 ≡ n.0 - 1 → ⊥) → worker (put t c cs n w) m ≡ worker t m
    put_other m h = get_or-set_other t.workers (n.0 - 1) (m.0 - 1) w idle_worker h

    -- what holds of the record that is set, and of every other worker's, holds of every worker's
    pub each_put : (Q : WorkerNo → Worker I → Type 0) → Q n w → ((m : WorkerNo) → is_worker t m ≡ true → (m.0 ≡ n.0 → ⊥) → Q m (worker t m))
        → (m : WorkerNo) → is_worker t m ≡ true → Q m (worker (put t c cs n w) m)
    each_put Q here else m b = go (cases_eq m.0 n.0)
      where
        go : (m.0 ≡ n.0) ⊎ (m.0 ≡ n.0 → ⊥) → Q m (worker (put t c cs n w) m)
        go (inl e) = subst (λ (k : WorkerNo). Q k (worker (put t c cs n w) k)) (sym (same_number e)) (subst (Q n) (sym put_same) here)
        go (inr h) =
            let r = worker_range t n there in
            let s = worker_range t m b in
            subst (Q m) (sym (put_other m (omega arith))) (else m b h)

  -- the cell of the ticket l is replaced by x, and a worker's record is set
  abbrev pub changed : Table I → Ticket → Cell I → WorkerNo → Worker I → Table I
  changed t l x n w = put t t.counters (set t.cells (slot t.counters.cells l) x) n w

  pub slot_in : (t : Table I) → Orderly t → (l : Ticket) → slot t.counters.cells l < length t.cells
  slot_in t o l = let h : 0 < t.counters.cells = omega (arith, o.in_range) in let m = mod-lt l.0 h in omega (arith, o.ring)

  pub cell_was : (t : Table I) (l k : Ticket) → slot t.counters.cells k ≡ slot t.counters.cells l → cell t k ≡ cell t l
  cell_was t l k e = ap (λ j. get_or t.cells j fresh_cell) e

  module _ (t : Table I) (o : Orderly t) (l : Ticket) (x : Cell I) (n : WorkerNo) (w : Worker I) where
    pub cell_here : (k : Ticket) → slot t.counters.cells k ≡ slot t.counters.cells l → cell (changed t l x n w) k ≡ x
    cell_here k e =
        ap (λ j. get_or (set t.cells (slot t.counters.cells l) x) j fresh_cell) e ∙ get_or-set_same t.cells (slot t.counters.cells l) x fresh_cell (slot_in t o l)

    pub cell_else : (k : Ticket) → (slot t.counters.cells k ≡ slot t.counters.cells l → ⊥) → cell (changed t l x n w) k ≡ cell t k
    cell_else k h = get_or-set_other t.cells (slot t.counters.cells l) (slot t.counters.cells k) x fresh_cell h

    -- what holds of the new cell and of every other holds of every cell
    pub each_cell : (Q : Ticket → Cell I → Type 0) → ((k : Ticket) → slot t.counters.cells k ≡ slot t.counters.cells l → Q k x)
        → ((k : Ticket) → (slot t.counters.cells k ≡ slot t.counters.cells l → ⊥) → Q k (cell t k)) → (k : Ticket) → Q k (cell (changed t l x n w) k)
    each_cell Q here else k =
        elim (cases_eq (slot t.counters.cells k) (slot t.counters.cells l)) [
          | inl e ↦ subst (Q k) (sym (cell_here k e)) (here k e)
          | inr h ↦ subst (Q k) (sym (cell_else k h)) (else k h)
        ]
