-- The rows of PRQ, which swaps a cell's pair or its value, one word at a time.
use Rattle.std.specs.Prelude.{Bool, true, false, cond, ◌&&◌, ◌||◌, ◌==◌, nat_le, nat_lt}
use Rattle.ring.specs.declared.table.Value.{Value}
use Rattle.ring.specs.declared.table.Value.TheVariants.{Empty, Token, Item}
use Rattle.ring.specs.declared.table.EngineRow.TheVariants.{E9}
use Rattle.ring.specs.declared.table.KindRow.{KindRow}
use Rattle.ring.specs.declared.table.KindRow.TheVariants.{E3, E4, E5, E6, E7, E8, E11, D2, D3, D4, D5, D6, D7, D8}
use Rattle.ring.specs.declared.table.Phase.TheVariants.{Engine, Kind}
use Rattle.ring.specs.Table.{occupied}
use Rattle.ring.specs.Fields.{with_pair, with_value, with_cell_value, with_cell_pair}
use Rattle.ring.specs.Turns.{KindStep, KindRows, step_of, same_pair, still, is_token, goes, passes, places, takes}

module _ {I : Type 0} where
  -- where a dequeue goes by the value read, from an epoch that is not above its round: exact says that it is the round
  abbrev pub by_value : Value I → Bool → KindRow
  by_value Empty exact = D7
  by_value (Token n) exact = D6
  by_value (Item i) exact = cond exact D5 D8

  -- head is Head, w the record of worker n, s its ticket's cell, and c its ticket's round
  abbrev pub prq_rows : KindRows I
  prq_rows head n w s c E3 = goes (with_pair w s.pair) s (Kind E4)
  prq_rows head n w s c E4 =
      goes (with_value w s.value) s (cond (occupied s.value || nat_le c.0 w.pair.epoch.0) (Engine E9) (Kind (cond w.pair.safe E6 E5)))
  prq_rows head n w s c E5 = goes w s (cond (nat_le head w.ticket.0) (Kind E6) (Engine E9))
  prq_rows head n w s c E6 = cond (still w.value s.value) (goes w (with_cell_value s (Token n)) (Kind E7)) (goes w s (Engine E9))
  prq_rows head n w s c E7 =
      cond (same_pair w.pair s.pair) (goes w (with_cell_pair s (record { safe = true; epoch = c })) (Kind E8)) (goes w s (Kind E11))
  prq_rows head n w s c E8 = cond (still (Token n) s.value) (places w s w.item) (goes w s (Engine E9))
  prq_rows head n w s c E11 = goes w (cond (still (Token n) s.value) (with_cell_value s Empty) s) (Engine E9)
  prq_rows head n w s c D2 = goes (with_pair w s.pair) s (Kind D3)
  prq_rows head n w s c D3 = goes (with_value w s.value) s (Kind D4)
  prq_rows head n w s c D4 =
      cond (same_pair w.pair s.pair)
      (cond (nat_lt c.0 s.pair.epoch.0) (passes w s) (goes w s (Kind (by_value w.value (s.pair.epoch.0 == c.0)))))
      (goes w s (Kind D2))
  prq_rows head n w s c D5 = takes w s w.value
  prq_rows head n w s c D6 = cond (is_token w.value && still w.value s.value) (goes w (with_cell_value s Empty) (Kind D7)) (goes w s (Kind D2))
  prq_rows head n w s c D7 =
      cond (same_pair w.pair s.pair) (passes w (with_cell_pair s (record { safe = s.pair.safe; epoch = c }))) (goes w s (Kind D2))
  prq_rows head n w s c D8 =
      cond (same_pair w.pair s.pair) (passes w (with_cell_pair s (record { safe = false; epoch = s.pair.epoch }))) (goes w s (Kind D2))

  -- the step of PRQ: these rows, one at a time
  abbrev pub prq_step : KindStep I
  prq_step = step_of prq_rows
