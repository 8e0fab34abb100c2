-- A move of the engine is one that a ring kind must bear, and what a ring kind knows of a table that differs by no more.
use Rattle.std.proofs.Common.{◌≡◌, ◌-◌, true, ◌⊎◌, get_or, sym, refl, ap, subst, inl, inr}
use Rattle.std.proofs.lemmas.Bool.{cases_eq}
use Rattle.tickets.specs.declared.Ticket.{Ticket}
use Rattle.tickets.specs.declared.WorkerNo.{WorkerNo}
use Rattle.tickets.specs.Places.{slot}
use Rattle.ring.specs.declared.table.Worker.{Worker}
use Rattle.ring.specs.declared.table.KindRow.{KindRow}
use Rattle.ring.specs.declared.table.KindRow.TheVariants.{E3, D2}
use Rattle.ring.specs.declared.table.Phase.TheVariants.{Kind}
use Rattle.ring.specs.Table.{Counters, Table, fresh_cell, idle_worker, worker, cell}
use Rattle.ring.specs.Phases.{Outside}
use Rattle.ring.specs.Calls.{is_worker}
use Rattle.ring.specs.Laws.{Alike, Framed, Enters}
use Rattle.ring.proofs.Moves.{Move, Moved, move_from, move_counters, move_worker, move_table, gets_enqueue, gets_dequeue, draws_tail, finds_open, finds_closed, finds_room, finds_full, shuts, draws_head, finds_more, finds_empty}
use Rattle.ring.proofs.Orderly.{Orderly}
use Rattle.ring.proofs.Writes.{put_same, put_other}
use Rattle.ring.proofs.Tickets.{move_grows}

module _ {I : Type 0} where
  -- a move of the engine is one that a ring kind must bear
  pub move_leaves : (m : Move I) → Outside (move_from m)
  move_leaves (gets_enqueue i) = tt
  move_leaves gets_dequeue = tt
  move_leaves draws_tail = tt
  move_leaves finds_open = tt
  move_leaves (finds_closed i) = tt
  move_leaves finds_room = tt
  move_leaves finds_full = tt
  move_leaves (shuts i) = tt
  move_leaves draws_head = tt
  move_leaves finds_more = tt
  move_leaves finds_empty = tt

  move_enters : (m : Move I) (c : Counters) (w : Worker I) → Enters (move_worker m c w).phase
  move_enters (gets_enqueue i) c w = inl tt
  move_enters gets_dequeue c w = inl tt
  move_enters draws_tail c w = inl tt
  move_enters finds_open c w = inr (inl refl)
  move_enters (finds_closed i) c w = inl tt
  move_enters finds_room c w = inl tt
  move_enters finds_full c w = inl tt
  move_enters (shuts i) c w = inl tt
  move_enters draws_head c w = inr (inr refl)
  move_enters finds_more c w = inl tt
  move_enters finds_empty c w = inl tt

  alike : {v w : Worker I} → w ≡ v → Alike v w
  alike e = record { phase = ap (λ u. u.phase) e; ticket = ap (λ u. u.ticket) e; item = ap (λ u. u.item) e; pair = ap (λ u. u.pair) e; value = ap (λ u. u.value) e }

  pub move_framed : (t : Table I) → Orderly t → (n : WorkerNo) (m : Move I) → Moved t n m → Framed t (move_table t n m)
  move_framed t o n m d =
      let g = move_grows m t.counters (worker t n) d.found in
      record { ring = g.ring; crew = g.crew; head = g.head; tail = g.tail; cells = refl; workers = λ k. go k (cases_eq (k.0 - 1) (n.0 - 1)) }
    where
      go : (k : WorkerNo) → (k.0 - 1 ≡ n.0 - 1) ⊎ (k.0 - 1 ≡ n.0 - 1 → ⊥)
          → Alike (worker t k) (worker (move_table t n m) k) ⊎ (Outside (worker t k).phase × Enters (worker (move_table t n m) k).phase)
      go k (inl e) =
          inr (
            subst (λ j. Outside (get_or t.workers j idle_worker).phase) (sym e) (subst Outside (sym d.standing) (move_leaves m)),
            subst (λ j. Enters (get_or (move_table t n m).workers j idle_worker).phase) (sym e)
                (subst (λ (v : Worker I). Enters v.phase) (sym (put_same t o (move_counters m t.counters) t.cells n d.there (move_worker m t.counters (worker t n))))
                (move_enters m t.counters (worker t n))),
          )
      go k (inr h) = inl (alike (put_other t o (move_counters m t.counters) t.cells n d.there (move_worker m t.counters (worker t n)) k h))

  alike_same : {v w : Worker I} → Alike v w → w ≡ v
  alike_same a = λ i. record { phase = a.phase i; ticket = a.ticket i; item = a.item i; pair = a.pair i; value = a.value i }

  module _ (t t' : Table I) (f : Framed t t') where
    pub framed_there : (n : WorkerNo) → is_worker t' n ≡ true → is_worker t n ≡ true
    framed_there n b = rw f.crew at b

    pub framed_cell : (k : Ticket) → cell t' k ≡ cell t k
    framed_cell k = λ i. get_or (f.cells i) (slot (f.ring i) k) fresh_cell

    -- a worker in one of the kind's phases is as it was, unless it has just come in
    pub framed_worker : (n : WorkerNo) (k : KindRow) → (worker t' n).phase ≡ Kind k → (worker t' n ≡ worker t n) ⊎ ((k ≡ E3) ⊎ (k ≡ D2))
    framed_worker n k p =
        elim (f.workers n) [
          | inl a ↦ inl (alike_same a)
          | inr q ↦ inr (elim q.1 [ inl o ↦ absurd (subst Outside p o) | inr e ↦ elim e [ inl x ↦ inl (cc) | inr y ↦ inr (cc) ] ])
        ]
