-- What a worker at each row of PRQ can count on.
use Rattle.std.specs.Prelude.{◌≡◌, ℕ, ◌/◌, ◌<◌, ◌≤◌, true, false, ◌⊎◌, refl}
use Rattle.std.proofs.Common.{sym, ap, ◌∙◌, inl, inr, arith}
use Rattle.tickets.specs.declared.Ticket.{Ticket}
use Rattle.tickets.specs.declared.WorkerNo.{WorkerNo}
use Rattle.tickets.specs.Places.{slot}
use Rattle.ring.specs.declared.table.Value.{Value}
use Rattle.ring.specs.declared.table.Cell.{Cell}
use Rattle.ring.specs.declared.table.KindRow.{KindRow}
use Rattle.ring.specs.declared.table.Phase.{Phase}
use Rattle.ring.specs.declared.table.Worker.{Worker}
use Rattle.ring.specs.declared.table.Value.TheVariants.{Empty, Token, Item}
use Rattle.ring.specs.declared.table.Side.TheVariants.{Dequeuing}
use Rattle.ring.specs.declared.table.KindRow.TheVariants.{E3, E4, E5, E6, E7, E8, E11, D2, D3, D4, D5, D6, D7, D8}
use Rattle.ring.specs.declared.table.Phase.TheVariants.{Idle, Engine, Kind}
use Rattle.ring.specs.Table.{Table, cell, occupied}
use Rattle.ring.proofs.Orderly.{drawn}
use Rattle.prq.specs.Barred.{Each, Unlocked, Quiet, Clear}
use Rattle.prq.specs.Keys.{key, no_newer}

module _ {I : Type 0} where
  module _ (t : Table I) (m : WorkerNo) (w : Worker I) (s : Cell I) where
    -- where a worker's ticket belongs
    abbrev pub at_slot : ℕ
    at_slot = slot t.counters.cells w.ticket

    abbrev pub at_round : ℕ
    at_round = w.ticket.0 / t.counters.cells

    -- the pair that it read is no newer than the cell's
    abbrev pub Known : Type 0
    Known = key w.pair ≤ key s.pair

    -- while the pair is as it read it
    abbrev pub While : Type 0 → Type 0
    While A = w.pair ≡ s.pair → A

    abbrev pub SawItem : Type 0
    SawItem = While (Unlocked t at_slot s.value) × While (w.pair.safe ≡ false → Clear t w.ticket s.pair)

    abbrev pub Saw : Value I → Type 0
    Saw Empty = While (Quiet t at_slot s.value)
    Saw (Token x) = Unit {0}
    Saw (Item i) = SawItem × While (s.pair.epoch.0 ≡ at_round → s.value ≡ Item i)

    abbrev pub AtRow : KindRow → Type 0
    AtRow E3 = Unit {0}
    AtRow E4 = Known
    AtRow E5 = Known × (w.pair.epoch.0 < at_round) × While (w.pair.safe ≡ false → Quiet t at_slot s.value)
    AtRow E6 = Known × (w.pair.epoch.0 < at_round) × While (w.pair.safe ≡ false → Quiet t at_slot s.value)
    AtRow E7 = Known × (w.pair.epoch.0 < at_round) × While (Quiet t at_slot s.value)
    AtRow E8 = s.value ≡ Token m → (s.pair.safe ≡ true) × (s.pair.epoch.0 ≡ at_round)
    AtRow E11 = Unit {0}
    AtRow D2 = Unit {0}
    AtRow D3 = Known
    AtRow D4 = Known × Saw w.value
    AtRow D5 = (i : I) → w.value ≡ Item i → (s.value ≡ Item i) × (s.pair.epoch.0 ≡ at_round)
    AtRow D6 = Known × (w.pair.epoch.0 ≤ at_round)
    AtRow D7 = Known × (w.pair.epoch.0 ≤ at_round) × While (Quiet t at_slot s.value)
    AtRow D8 = Known × (w.pair.epoch.0 < at_round) × SawItem

    abbrev pub AtPhase : Phase → Type 0
    AtPhase Idle = Unit {0}
    AtPhase (Engine e) = Unit {0}
    AtPhase (Kind k) = AtRow k

  abbrev pub Promise : Table I → WorkerNo → Worker I → Cell I → Type 0
  Promise t m w s = AtPhase t m w s w.phase

  -- the invariant
  abbrev pub Promised : Table I → Type 0
  Promised t = Each t (λ m w. Promise t m w (cell t w.ticket))

  -- what the promise to a worker m with the ticket k bears: its cell goes from s to s' as the table goes from t to t'
  pub record Bears (t t' : Table I) (m : WorkerNo) (k : Ticket) (x : Phase) (s s' : Cell I) : Type 0 where
    pub ring : t'.counters.cells ≡ t.counters.cells
    pub rises : key s.pair ≤ key s'.pair
    pub lock : x ≡ Kind E8 → s.value ≡ Token m → s'.pair ≡ s.pair
    pub epoch : (s'.pair.epoch ≡ s.pair.epoch) ⊎ (occupied s.value ≡ false)
    pub token : s'.value ≡ Token m → s.value ≡ Token m
    pub item : (i : I) → drawn x ≡ Dequeuing → s.value ≡ Item i → s.pair.epoch.0 ≡ k.0 / t.counters.cells → s'.value ≡ Item i
    pub unlocked : s'.pair ≡ s.pair → Unlocked t (slot t.counters.cells k) s.value → Unlocked t' (slot t'.counters.cells k) s'.value
    pub free : s'.pair ≡ s.pair → Quiet t (slot t.counters.cells k) s.value → occupied s'.value ≡ false
    pub clear : drawn x ≡ Dequeuing → s.pair.safe ≡ false → s'.pair ≡ s.pair → Clear t k s.pair → Clear t' k s'.pair

  module _ (t t' : Table I) (m : WorkerNo) (w : Worker I) (s s' : Cell I) where
    module _ (x : Phase) (b : Bears t t' m w.ticket x s s') where
      same_round : w.ticket.0 / t'.counters.cells ≡ w.ticket.0 / t.counters.cells
      same_round = ap (λ r. w.ticket.0 / r) b.ring

      bears_known : Known t m w s → Known t' m w s'
      bears_known p = omega (arith, b.rises)

      bears_quiet : Known t m w s → While t m w s (Quiet t (at_slot t m w s) s.value) → While t' m w s' (Quiet t' (at_slot t' m w s') s'.value)
      bears_quiet p q e =
          let f = no_newer w.pair s.pair s'.pair p b.rises e in
          let g = q (e ∙ f) in
          (b.free f g, b.unlocked f g.1)

      bears_seen : drawn x ≡ Dequeuing → Known t m w s → SawItem t m w s → SawItem t' m w s'
      bears_seen h p q = (
        λ e. let f = no_newer w.pair s.pair s'.pair p b.rises e in b.unlocked f (q.0 (e ∙ f)),
        λ e u.
            let f = no_newer w.pair s.pair s'.pair p b.rises e in
            b.clear h (sym (ap (λ z. z.safe) (e ∙ f)) ∙ u) f (q.1 (e ∙ f) u),
      )

      bears_saw : drawn x ≡ Dequeuing → Known t m w s → (v : Value I) → Saw t m w s v → Saw t' m w s' v
      bears_saw h p Empty q = bears_quiet p q
      bears_saw h p (Token y) q = tt
      bears_saw h p (Item i) q = (
        bears_seen h p q.0,
        λ e g.
            let f = no_newer w.pair s.pair s'.pair p b.rises e in
            let k : s.pair.epoch.0 ≡ at_round t m w s = ap (λ z. z.epoch.0) (sym f) ∙ (g ∙ same_round) in
            b.item i h (q.1 (e ∙ f) k) k,
      )

      bears_lock : x ≡ Kind E8 → AtRow t m w s E8 → AtRow t' m w s' E8
      bears_lock h p v =
          let u = b.token v in
          let q = p u in
          let e = b.lock h u in
          (ap (λ z. z.safe) e ∙ q.0, ap (λ z. z.epoch.0) e ∙ (q.1 ∙ sym same_round))

      bears_hold : drawn x ≡ Dequeuing → AtRow t m w s D5 → AtRow t' m w s' D5
      bears_hold h p i v =
          let q = p i v in
          elim b.epoch [
            | inl e ↦ (b.item i h q.0 q.1, ap (λ z. z.0) e ∙ (q.1 ∙ sym same_round))
            | inr e ↦ let f = ap occupied q.0 in cc
          ]

    bears_row : (j : KindRow) → Bears t t' m w.ticket (Kind j) s s' → AtRow t m w s j → AtRow t' m w s' j
    bears_row E3 b p = tt
    bears_row E4 b p = bears_known _ b p
    bears_row E5 b p = (bears_known _ b p.0, rw (same_round _ b) p.1, λ e u. bears_quiet _ b p.0 (λ f. p.2 f u) e)
    bears_row E6 b p = (bears_known _ b p.0, rw (same_round _ b) p.1, λ e u. bears_quiet _ b p.0 (λ f. p.2 f u) e)
    bears_row E7 b p = (bears_known _ b p.0, rw (same_round _ b) p.1, bears_quiet _ b p.0 p.2)
    bears_row E8 b p = bears_lock _ b refl p
    bears_row E11 b p = tt
    bears_row D2 b p = tt
    bears_row D3 b p = bears_known _ b p
    bears_row D4 b p = (bears_known _ b p.0, bears_saw _ b refl p.0 w.value p.1)
    bears_row D5 b p = bears_hold _ b refl p
    bears_row D6 b p = (bears_known _ b p.0, rw (same_round _ b) p.1)
    bears_row D7 b p = (bears_known _ b p.0, rw (same_round _ b) p.1, bears_quiet _ b p.0 p.2)
    bears_row D8 b p = (bears_known _ b p.0, rw (same_round _ b) p.1, bears_seen _ b refl p.0 p.2)

    pub bears : (p : Phase) → Bears t t' m w.ticket p s s' → AtPhase t m w s p → AtPhase t' m w s' p
    bears Idle b q = tt
    bears (Engine e) b q = tt
    bears (Kind j) b q = bears_row j b q
