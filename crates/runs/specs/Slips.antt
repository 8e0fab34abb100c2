-- Four slips that old players made in the rows of PRQ. The books of none of them close.
use Rattle.std.specs.Prelude.{Bool, cond, ◌||◌, List, [], ◌∷◌, ℕ, ◌-◌, leb, ltb, eqb}
use Rattle.ring.specs.declared.table.Value.{Value}
use Rattle.ring.specs.declared.table.Value.TheVariants.{Empty, Token, Item}
use Rattle.ring.specs.declared.table.EngineRow.TheVariants.{E9}
use Rattle.ring.specs.declared.table.KindRow.{KindRow}
use Rattle.ring.specs.declared.table.KindRow.TheVariants.{E3, E4, E5, E6, E7, E8, E11, D2, D3, D4, D5, D6, D7, D8}
use Rattle.ring.specs.declared.table.Phase.TheVariants.{Engine, Kind}
use Rattle.ring.specs.Table.{occupied}
use Rattle.ring.specs.Fields.{with_value}
use Rattle.ring.specs.Turns.{KindRows, step_of, same_pair, goes, passes}
use Rattle.ring.specs.Books.{BooksClose}
use Rattle.prq.specs.Rows.{by_value, prq_rows}

-- the place of a row in the list of rows, to tell one from another
abbrev place : KindRow → ℕ
place E3 = 0
place E4 = 1
place E5 = 2
place E6 = 3
place E7 = 4
place E8 = 5
place E11 = 6
place D2 = 7
place D3 = 8
place D4 = 9
place D5 = 10
place D6 = 11
place D7 = 12
place D8 = 13

module _ {I : Type 0} where
  -- the rows with another row at one place
  abbrev instead : KindRow → KindRows I → KindRows I → KindRows I
  instead at slip rows head n w s c k = cond (eqb (place at) (place k)) (slip head n w s c k) (rows head n w s c k)

  -- where D4 goes when it leaves a token at an epoch that equals the round
  abbrev kept_by_value : Value I → Bool → KindRow
  kept_by_value Empty exact = D7
  kept_by_value (Token n) exact = cond exact D7 D6
  kept_by_value (Item i) exact = cond exact D5 D8

  -- the rows of PRQ with that D4
  abbrev pub token_left : KindRows I
  token_left =
      instead D4
      (λ head n w s c k.
      cond (same_pair w.pair s.pair)
      (cond (ltb c.0 s.pair.epoch.0) (passes w s) (goes w s (Kind (kept_by_value w.value (eqb s.pair.epoch.0 c.0)))))
      (goes w s (Kind D2)))
      prq_rows

  -- D4 does not read the pair again, and goes by the one read
  abbrev pub read_once : KindRows I
  read_once =
      instead D4
      (λ head n w s c k.
      cond (ltb c.0 w.pair.epoch.0) (passes w s) (goes w s (Kind (by_value w.value (eqb w.pair.epoch.0 c.0)))))
      prq_rows

  -- Head is read before the value: E4 reads Head where the pair is not Safe, and E5 the value
  abbrev pub head_first : KindRows I
  head_first =
      instead E4
      (λ head n w s c k. goes w s (cond (leb c.0 w.pair.epoch.0) (Engine E9) (cond (w.pair.safe || leb head w.ticket.0) (Kind E5) (Engine E9))))
      (instead E5 (λ head n w s c k. goes (with_value w s.value) s (cond (occupied s.value) (Engine E9) (Kind E6))) prq_rows)

  -- E5 works out ticket − Head and asks whether it is at least 0, which it is also where Head is ahead
  abbrev pub difference : KindRows I
  difference = instead E5 (λ head n w s c k. goes w s (cond (leb 0 (w.ticket.0 - head)) (Kind E6) (Engine E9))) prq_rows

  -- the four of them
  abbrev pub slips : List (KindRows I)
  slips = token_left ∷ read_once ∷ head_first ∷ difference ∷ []

  -- with each of these rows the books of some run do not close
  unfoldable pub EachBreaks : List (KindRows I) → Type 0
  EachBreaks [] = Unit {0}
  EachBreaks (rows ∷ others) = (BooksClose (step_of rows) → ⊥) × EachBreaks others
