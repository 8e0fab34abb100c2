-- What a turn of PRQ leaves: which cells stay quiet, unlocked and clear.
use Rattle.std.specs.Prelude.{◌≡◌, ℕ, ◌<◌, ◌≤◌, true, false, ◌≢◌, refl}
use Rattle.std.proofs.Common.{sym, ap, subst, ◌∙◌, inl, inr, arith}
use Rattle.tickets.specs.declared.Ticket.{Ticket}
use Rattle.tickets.specs.declared.WorkerNo.{WorkerNo}
use Rattle.tickets.specs.Places.{slot}
use Rattle.ring.specs.declared.table.Pair.{Pair}
use Rattle.ring.specs.declared.table.Value.{Value}
use Rattle.ring.specs.declared.table.Cell.{Cell}
use Rattle.ring.specs.declared.table.KindRow.{KindRow}
use Rattle.ring.specs.declared.table.Value.TheVariants.{Token}
use Rattle.ring.specs.declared.table.KindRow.TheVariants.{E6, E7, E8}
use Rattle.ring.specs.declared.table.Phase.TheVariants.{Kind}
use Rattle.ring.specs.Calls.{is_worker}
use Rattle.ring.specs.Laws.{Turned, then_table}
use Rattle.ring.specs.Phases.{side}
use Rattle.ring.specs.Table.{Table, worker, cell, occupied}
use Rattle.ring.specs.Turns.{Turn}
use Rattle.ring.proofs.Induction.{each_worker_after}
use Rattle.ring.proofs.Orderly.{Orderly}
use Rattle.ring.proofs.RowByRow.{kept_ticket}
use Rattle.ring.proofs.Writes.{cell_was}
use Rattle.prq.specs.Barred.{AtDoor, Unlocked, Quiet, Clear}
use Rattle.prq.specs.Rows.{prq_step}
use Rattle.prq.specs.Effects.{effect, Seen, seen}
use Rattle.prq.specs.Keys.{key, no_newer}
use Rattle.prq.specs.Promises.{AtRow, AtPhase, Promise, Promised}
use Rattle.prq.specs.Turns.{did_turn, touches}

module _ {I : Type 0} where
  module _ (t : Table I) (o : Orderly t) (inv : Promised t) (n : WorkerNo) (out : Turn I) (d : Turned prq_step t n out) where
    abbrev r : ℕ
    r = t.counters.cells

    abbrev here : Cell I
    here = cell t (worker t n).ticket

    pub own_promise : AtRow t n (worker t n) here d.standing
    own_promise = subst (AtPhase t n (worker t n) here) d.inside (inv n d.there)

    pub turn_seen : Seen t n (worker t n) here out
    turn_seen = seen t n (worker t n) here d.standing out d.inside own_promise (effect _ _ _ _ _ _ _ (did_turn t n out d))

    pub ticket_kept : (j : KindRow) → out.worker.phase ≡ Kind j → out.worker.ticket ≡ (worker t n).ticket
    ticket_kept j = kept_ticket (side (worker t n).phase) (worker t n) out j ((touches t).0 n out d)

    door_ticket : AtDoor out.worker.phase → out.worker.ticket ≡ (worker t n).ticket
    door_ticket (inl e) = ticket_kept E6 e
    door_ticket (inr e) = ticket_kept E7 e

    pub lock_after : (j : ℕ) → (out.worker.phase ≢ Kind E8) → Unlocked t j here.value → Unlocked (then_table t n out) j out.cell.value
    lock_after j h u =
        each_worker_after prq_step t o n out d (λ m v. v.phase ≡ Kind E8 → slot r v.ticket ≡ j → out.cell.value ≢ Token m) (λ e _ _. h e)
        (λ m b g p q z. u m b p q (turn_seen.value.token m g z))

    pub not_locking : out.cell.pair.epoch.0 ≤ here.pair.epoch.0 → out.worker.phase ≢ Kind E8
    not_locking h e = let l = turn_seen.worker.locks e in omega arith

    pub free_after : Quiet t (slot r (worker t n).ticket) here.value → occupied out.cell.value ≡ false
    free_after q =
        elim (turn_seen.value.free q.0) [
          | inl e ↦ e
          | inr e ↦ absurd (q.1 n d.there e.0 refl e.1)
        ]

    -- what another worker of the same cell counts on
    pub promise_here : (m : WorkerNo) → is_worker t m ≡ true → slot r (worker t m).ticket ≡ slot r (worker t n).ticket → Promise t m (worker t m) here
    promise_here m b e = subst (Promise t m (worker t m)) (cell_was t (worker t n).ticket (worker t m).ticket e) (inv m b)

    pub row_here : (m : WorkerNo) → is_worker t m ≡ true → slot r (worker t m).ticket ≡ slot r (worker t n).ticket → (j : KindRow) → (worker t m).phase ≡ Kind j → AtRow t m (worker t m) here j
    row_here m b e j p = subst (AtPhase t m (worker t m) here) p (promise_here m b e)

    -- a worker at the door read a pair no newer than the cell's
    pub known_at_door : (m : WorkerNo) → is_worker t m ≡ true → slot r (worker t m).ticket ≡ slot r (worker t n).ticket → AtDoor (worker t m).phase → key (worker t m).pair ≤ key here.pair
    known_at_door m b e (inl f) = (row_here m b e E6 f).0
    known_at_door m b e (inr f) = (row_here m b e E7 f).0

    pub clear_after : (k : Ticket) → slot r k ≡ slot r (worker t n).ticket → k.0 < t.counters.head → here.pair.safe ≡ false → Clear t k here.pair
        → Clear (then_table t n out) k out.cell.pair
    clear_after k e h u c =
        each_worker_after prq_step t o n out d (λ m v. AtDoor v.phase → slot r v.ticket ≡ slot r k → v.ticket.0 ≤ k.0 → v.pair ≢ out.cell.pair)
        (λ a _ l f.
        let g = turn_seen.worker.door a in
        let z = door_ticket a in
        let y = ap (λ x. x.0) z in
        elim g.2 [
          | inl q ↦ let p : (worker t n).pair ≡ here.pair = cc in cc
          | inr (inl q) ↦ omega arith
          | inr (inr q) ↦ c n d.there q (sym e) (omega arith) (cc)
        ])
        (λ m b _ a q l f. c m b a q l (f ∙ no_newer (worker t m).pair here.pair out.cell.pair (known_at_door m b (q ∙ e) a) turn_seen.pair.rises f))

    -- other cells
    pub unlocked_else : (k : Ticket) (v : Value I) → (slot r k ≢ slot r (worker t n).ticket) → Unlocked t (slot r k) v → Unlocked (then_table t n out) (slot r k) v
    unlocked_else k v h u =
        each_worker_after prq_step t o n out d (λ m y. y.phase ≡ Kind E8 → slot r y.ticket ≡ slot r k → v ≢ Token m)
        (λ e f _. h (sym f ∙ ap (slot r) (ticket_kept E8 e))) (λ m b _. u m b)

    pub clear_else : (k : Ticket) (p : Pair) → (slot r k ≢ slot r (worker t n).ticket) → Clear t k p → Clear (then_table t n out) k p
    clear_else k p h c =
        each_worker_after prq_step t o n out d (λ m y. AtDoor y.phase → slot r y.ticket ≡ slot r k → y.ticket.0 ≤ k.0 → y.pair ≢ p)
        (λ a f _ _. h (sym f ∙ ap (slot r) (door_ticket a))) (λ m b _. c m b)
