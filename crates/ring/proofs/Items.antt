-- What was placed and not taken is what the cells hold.
use Rattle.std.proofs.Common.{◌≡◌, ℕ, ◌+◌, ◌%◌, ◌<◌, ◌≤◌, true, false, ◌⊎◌, List, ◌∷◌, sym, refl, ap, ◌∙◌, subst, subst₂, inl, inr, arith}
use mathlib.Core.Logic.{⊎_swap}
use Rattle.std.proofs.lemmas.Bool.{cases_eq}
use Rattle.tickets.specs.declared.Ticket.{Ticket}
use Rattle.tickets.specs.declared.WorkerNo.{WorkerNo}
use Rattle.tickets.specs.Places.{round, slot}
use Rattle.ring.specs.declared.table.Cell.{Cell}
use Rattle.ring.specs.declared.table.Worker.{Worker}
use Rattle.ring.specs.declared.table.Value.TheVariants.{Empty, Item}
use Rattle.ring.specs.declared.table.Side.TheVariants.{Neither, Enqueuing}
use Rattle.ring.specs.Table.{Counters, Table, one_if, worker, cell, occupied, occupied_cells, Held}
use Rattle.ring.specs.Turns.{goes}
use Rattle.ring.specs.Calls.{is_worker}
use Rattle.ring.specs.Ledger.{Event, placed, taken, passed_over}
use Rattle.ring.specs.Books.{Happened, times, is_placing, is_taking, placing, taking, passing, FromPlaced}
use Rattle.ring.specs.Laws.{item_of}
use Rattle.ring.proofs.Equals.{same_ticket}
use Rattle.ring.proofs.Rounds.{same_place}
use Rattle.ring.proofs.Values.{item_back, occupied_by_item}
use Rattle.ring.proofs.Orderly.{Orderly, drawn}
use Rattle.ring.proofs.Writes.{put, each_put, changed, slot_in, cell_was, cell_here, cell_else}
use Rattle.ring.proofs.Tickets.{Grows, Goes, grows_none, rests, keeps, takes_tail, takes_head}
use Rattle.ring.proofs.Events.{one_same, one_other, once_more, one_sort, places_happened, unplaced_untaken}
use Rattle.ring.proofs.Occupied.{occupied_set}

module _ {I : Type 0} where
  pub record Items (barred : Table I → Ticket → Type 0) (t : Table I) (es : List (Event I)) : Type 0 where
    pub none_before : (k : ℕ) → k < t.counters.cells → times (placing k) es ≡ 0
    pub none_later : (k : ℕ) → t.counters.tail ≤ k → times (placing k) es ≡ 0
    pub unplaced : (n : WorkerNo) → is_worker t n ≡ true → drawn (worker t n).phase ≡ Enqueuing → times (placing (worker t n).ticket.0) es ≡ 0
    pub placed_once : (k : ℕ) → times (placing k) es ≤ 1
    pub taken_once : (k : ℕ) → times (taking k) es ≤ 1
    pub taken_from_placed : FromPlaced es
    pub held_is_placed : (k : Ticket) (i : I) → Held t k i → Happened (placed k i) es × (times (taking k.0) es ≡ 0)
    pub placed_is_held : (k : Ticket) (i : I) → Happened (placed k i) es → times (taking k.0) es ≡ 0 → Held t k i
    pub balance : times is_placing es ≡ times is_taking es + occupied_cells t.cells
    pub never_both : (k : ℕ) → (times (placing k) es ≡ 0) ⊎ (times (passing k) es ≡ 0)
    pub passed_barred : (k : Ticket) → 1 ≤ times (passing k.0) es → barred t k

  -- held by that cell, in a ring of r cells
  abbrev HeldIn : ℕ → Ticket → I → Cell I → Type 0
  HeldIn r k i c = (c.value ≡ Item i) × (c.pair.epoch ≡ round r k)

  -- the cell of the ticket l is replaced by x
  module _ (t : Table I) (o : Orderly t) (l : Ticket) (x : Cell I) (n : WorkerNo) (w : Worker I) where
    -- who is held after it: by the new cell, or as before
    held_new : (k : Ticket) (i : I) → Held (changed t l x n w) k i → ((slot t.counters.cells k ≡ slot t.counters.cells l) × HeldIn t.counters.cells k i x)
        ⊎ ((slot t.counters.cells k ≡ slot t.counters.cells l → ⊥) × Held t k i)
    held_new k i h =
        elim (cases_eq (slot t.counters.cells k) (slot t.counters.cells l)) [
          | inl s ↦ inl (s, subst (HeldIn t.counters.cells k i) (cell_here t o l x n w k s) h)
          | inr s ↦ inr (s, subst (HeldIn t.counters.cells k i) (cell_else t o l x n w k s) h)
        ]

    -- who was held before it: by the cell that was replaced, or still is
    held_old : (k : Ticket) (i : I) → Held t k i → ((slot t.counters.cells k ≡ slot t.counters.cells l) × HeldIn t.counters.cells k i (cell t l)) ⊎ Held (changed t l x n w) k i
    held_old k i h =
        elim (cases_eq (slot t.counters.cells k) (slot t.counters.cells l)) [
          | inl s ↦ inl (s, subst (HeldIn t.counters.cells k i) (cell_was t l k s) h)
          | inr s ↦ inr (subst (HeldIn t.counters.cells k i) (sym (cell_else t o l x n w k s)) h)
        ]

    held_by : (k : Ticket) (i : I) → slot t.counters.cells k ≡ slot t.counters.cells l → HeldIn t.counters.cells k i x → Held (changed t l x n w) k i
    held_by k i s h = subst (HeldIn t.counters.cells k i) (sym (cell_here t o l x n w k s)) h

    -- the cell keeps its item, and its epoch where it has one
    pub held_kept : item_of x.value ≡ item_of (cell t l).value → (occupied (cell t l).value ≡ true → x.pair.epoch ≡ (cell t l).pair.epoch)
        → (k : Ticket) (i : I) → (Held t k i → Held (changed t l x n w) k i) × (Held (changed t l x n w) k i → Held t k i)
    held_kept same epoch k i = (
      λ h.
          elim (held_old k i h) [
            | inl g ↦ held_by k i g.0 (item_back x.value i (same ∙ ap item_of g.1.0), epoch (ap occupied g.1.0) ∙ g.1.1)
            | inr g ↦ g
          ],
      λ h.
          elim (held_new k i h) [
            | inl g ↦
                let v : (cell t l).value ≡ Item i = item_back (cell t l).value i (sym same ∙ ap item_of g.1.0) in
                subst (HeldIn t.counters.cells k i) (sym (cell_was t l k g.0)) (v, sym (epoch (ap occupied v)) ∙ g.1.1)
            | inr g ↦ g.1
          ],
    )

    pub occupied_kept : item_of x.value ≡ item_of (cell t l).value → occupied_cells (changed t l x n w).cells ≡ occupied_cells t.cells
    occupied_kept same = let p = occupied_set t.cells (slot t.counters.cells l) x (slot_in t o l) in let q = ap one_if (occupied_by_item x.value (cell t l).value same) in omega arith

  module _ (barred : Table I → Ticket → Type 0) (t : Table I) (o : Orderly t) (es : List (Event I)) (a : Items barred t es) (n : WorkerNo) (there : is_worker t n ≡ true) (w : Worker I) where
    -- the tickets under way stay unplaced where nothing is placed
    still_unplaced : (c : Counters) (cs : List (Cell I)) (es' : List (Event I)) → Grows t.counters c → Goes t.counters c (worker t n) w
        → ((k : ℕ) → times (placing k) es' ≡ times (placing k) es)
        → (m : WorkerNo) → is_worker (put t c cs n w) m ≡ true → drawn (worker (put t c cs n w) m).phase ≡ Enqueuing → times (placing (worker (put t c cs n w) m).ticket.0) es' ≡ 0
    still_unplaced c cs es' grows goes f m b =
        each_put t o c cs n there w (λ _ v. drawn v.phase ≡ Enqueuing → times (placing v.ticket.0) es' ≡ 0) (λ d. f w.ticket.0 ∙ go goes d)
        (λ k e _ d. f (worker t k).ticket.0 ∙ a.unplaced k e d) m (rw grows.crew at b)
      where
        go : Goes t.counters c (worker t n) w → drawn w.phase ≡ Enqueuing → times (placing w.ticket.0) es ≡ 0
        go (rests e) d = cc
        go (keeps e k) d = rw k (a.unplaced n there (sym e ∙ d))
        go (takes_tail e k q) d = a.none_later w.ticket.0 (omega arith)
        go (takes_head e k q) d = cc

    -- nothing is placed, taken or passed over
    pub items_on : (c : Counters) (cs : List (Cell I)) → Grows t.counters c → Goes t.counters c (worker t n) w
        → ((k : Ticket) (i : I) → (Held t k i → Held (put t c cs n w) k i) × (Held (put t c cs n w) k i → Held t k i))
        → occupied_cells cs ≡ occupied_cells t.cells → ((k : Ticket) → barred t k → barred (put t c cs n w) k) → Items barred (put t c cs n w) es
    items_on c cs grows goes held same bars =
        record {
          none_before = λ k h. a.none_before k (omega (arith, grows.ring));
          none_later = λ k h. a.none_later k (omega (arith, grows.tail));
          unplaced = still_unplaced c cs es grows goes (λ _. refl);
          placed_once = a.placed_once;
          taken_once = a.taken_once;
          taken_from_placed = a.taken_from_placed;
          held_is_placed = λ k i h. a.held_is_placed k i ((held k i).1 h);
          placed_is_held = λ k i p z. (held k i).0 (a.placed_is_held k i p z);
          balance = omega (arith, a.balance);
          never_both = a.never_both;
          passed_barred = λ k h. bars k (a.passed_barred k h);
        }

    -- the ticket l is placed
    pub items_placed : (l : Ticket) (x : Cell I) (i : I) → (worker t n).ticket ≡ l → drawn (worker t n).phase ≡ Enqueuing → drawn w.phase ≡ Neither
        → occupied (cell t l).value ≡ false → (barred t l → ⊥) → Held (changed t l x n w) l i → ((k : Ticket) → barred t k → barred (changed t l x n w) k)
        → Items barred (changed t l x n w) (placed l i ∷ es)
    items_placed l x i eq d r free unbarred held bars =
        let number : (worker t n).ticket.0 ≡ l.0 = ap (λ z. z.0) eq in
        let range = o.enqueues n there d in
        let new : times (placing l.0) es ≡ 0 = subst (λ (z : Ticket). times (placing z.0) es ≡ 0) eq (a.unplaced n there d) in
        let unpassed : times (passing l.0) es ≡ 0 = elim (cases_eq (times (passing l.0) es) 0) [ inl z ↦ z | inr z ↦ absurd (unbarred (a.passed_barred l (omega arith))) ] in
        let value : x.value ≡ Item i = cc (cell_here t o l x n w l refl, held.0) in
        let epoch : x.pair.epoch ≡ round t.counters.cells l = cc (cell_here t o l x n w l refl, held.1) in
        record {
          none_before = λ k h. omega (arith, one_other l.0 k (λ e. omega arith), a.none_before k h);
          none_later = λ k h. omega (arith, one_other l.0 k (λ e. omega arith), a.none_later k h);
          unplaced =
              each_put t o t.counters (changed t l x n w).cells n there w (λ _ v. drawn v.phase ≡ Enqueuing → times (placing v.ticket.0) (placed l i ∷ es) ≡ 0)
              (λ e. cc)
              (λ j g h e.
              let away : l.0 ≡ (worker t j).ticket.0 → ⊥ = λ z. o.apart j n g there h (e ∙ sym d) (λ y. cc) (sym z ∙ sym number) in
              omega (arith, one_other l.0 (worker t j).ticket.0 away, a.unplaced j g e));
          placed_once = λ k. once_more l.0 k _ (λ e. rw e at new) (a.placed_once k);
          taken_once = λ k. omega (arith, a.taken_once k);
          taken_from_placed = a.taken_from_placed;
          held_is_placed =
              λ k j h.
              elim (held_new t o l x n w k j h) [
                | inl g ↦
                    let same : k ≡ l = same_place t.counters.cells k l g.0 (cc (g.1.1, epoch)) in
                    let q : times (taking k.0) es ≡ 0 = rw same (unplaced_untaken l.0 es a.taken_from_placed new) in
                    (inl (cc (g.1.0, value)), omega arith)
                | inr g ↦ let u = a.held_is_placed k j g.1 in (inr u.0, omega arith)
              ];
          placed_is_held =
              λ k j p z.
              elim p [
                | inl e ↦ let same : l ≡ k = cc in let item : i ≡ j = cc in subst₂ (Held (changed t l x n w)) same item held
                | inr q ↦ elim (held_old t o l x n w k j (a.placed_is_held k j q (omega arith))) [ inl g ↦ cc (g.1.0, free) | inr g ↦ g ]
              ];
          balance =
              let p = occupied_set t.cells (slot t.counters.cells l) x (slot_in t o l) in
              let q : one_if (occupied (cell t l).value) ≡ 0 = ap one_if free in
              let u : one_if (occupied x.value) ≡ 1 = ap (λ v. one_if (occupied v)) value in
              omega (arith, a.balance);
          never_both = λ k. one_sort l.0 k _ _ (λ e. rw e at unpassed) (a.never_both k);
          passed_barred = λ k h. bars k (a.passed_barred k (omega arith));
        }

    -- the ticket l is taken
    pub items_taken : (l : Ticket) (x : Cell I) (i : I) → drawn w.phase ≡ Neither → Held t l i → x.value ≡ Empty → ((k : Ticket) → barred t k → barred (changed t l x n w) k)
        → Items barred (changed t l x n w) (taken l i ∷ es)
    items_taken l x i r held empty bars =
        let was = a.held_is_placed l i held in
        record {
          none_before = λ k h. omega (arith, a.none_before k h);
          none_later = λ k h. omega (arith, a.none_later k h);
          unplaced = still_unplaced t.counters (changed t l x n w).cells (taken l i ∷ es) (grows_none t.counters) (rests r) (λ k. omega arith);
          placed_once = λ k. omega (arith, a.placed_once k);
          taken_once = λ k. once_more l.0 k _ (λ e. rw e at was.1) (a.taken_once k);
          taken_from_placed = (was.0, a.taken_from_placed);
          held_is_placed =
              λ k j h.
              elim (held_new t o l x n w k j h) [
                | inl g ↦ cc (g.1.0, empty)
                | inr g ↦
                    let u = a.held_is_placed k j g.1 in
                    (inr u.0, omega (arith, one_other l.0 k.0 (λ e. g.0 (ap (λ z. z % t.counters.cells) (sym e)))))
              ];
          placed_is_held =
              λ k j p z.
              elim p [
                | inl e ↦ cc
                | inr q ↦ elim (held_old t o l x n w k j (a.placed_is_held k j q (omega arith))) [
                  | inl g ↦
                      let same : l ≡ k = same_place t.counters.cells l k (sym g.0) (cc (g.1.1, held.1)) in
                      absurd (omega (arith, one_same l.0 k.0 (ap (λ y. y.0) same)))
                  | inr g ↦ g
                ]
              ];
          balance =
              let p = occupied_set t.cells (slot t.counters.cells l) x (slot_in t o l) in
              let q : one_if (occupied (cell t l).value) ≡ 1 = ap (λ v. one_if (occupied v)) held.0 in
              let u : one_if (occupied x.value) ≡ 0 = ap (λ v. one_if (occupied v)) empty in
              omega (arith, a.balance);
          never_both = λ k. elim (a.never_both k) [ inl z ↦ inl (omega arith) | inr z ↦ inr (omega arith) ];
          passed_barred = λ k h. bars k (a.passed_barred k (omega arith));
        }

  -- the ticket l is passed over
  pub items_passed : (barred : Table I → Ticket → Type 0) (t : Table I) (es : List (Event I)) → Items barred t es → (l : Ticket) → ((i : I) → Held t l i → ⊥)
      → times (taking l.0) es ≡ 0 → barred t l → Items barred t (passed_over l ∷ es)
  items_passed barred t es a l unheld untaken bars =
      let new : times (placing l.0) es ≡ 0 =
      elim (cases_eq (times (placing l.0) es) 0) [
        | inl z ↦ z
        | inr z ↦ let p = places_happened l.0 es (omega arith) in absurd (unheld p.0 (a.placed_is_held l p.0 p.1 untaken))
      ]
      in
      record {
        none_before = λ k h. omega (arith, a.none_before k h);
        none_later = λ k h. omega (arith, a.none_later k h);
        unplaced = λ n b d. omega (arith, a.unplaced n b d);
        placed_once = λ k. omega (arith, a.placed_once k);
        taken_once = λ k. omega (arith, a.taken_once k);
        taken_from_placed = a.taken_from_placed;
        held_is_placed = λ k j h. let u = a.held_is_placed k j h in (inr u.0, omega arith);
        placed_is_held = λ k j p z. elim p [ inl e ↦ cc | inr q ↦ a.placed_is_held k j q (omega arith) ];
        balance = omega (arith, a.balance);
        never_both = λ k. ⊎_swap (one_sort l.0 k _ _ (λ e. rw e at new) (⊎_swap (a.never_both k)));
        passed_barred =
            λ k h.
            elim (cases_eq l.0 k.0) [
              | inl e ↦ subst (barred t) (same_ticket e) bars
              | inr n ↦ a.passed_barred k (omega (arith, one_other l.0 k.0 n))
            ];
      }
