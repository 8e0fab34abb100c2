-- The rows of CRQ, which swaps a cell's pair and value together.
use Rattle.std.specs.Prelude.{◌+◌, Bool, true, false, cond, ◌&&◌, Err, Result, ◌==◌, nat_le, nat_lt}
use Rattle.tickets.specs.declared.Epoch.{Epoch}
use Rattle.ring.specs.declared.table.Value.{Value}
use Rattle.ring.specs.declared.table.Cell.{Cell}
use Rattle.ring.specs.declared.table.Worker.{Worker}
use Rattle.ring.specs.declared.table.Value.TheVariants.{Empty, Token, Item}
use Rattle.ring.specs.declared.table.EngineRow.TheVariants.{E9}
use Rattle.ring.specs.declared.table.KindRow.TheVariants.{E3, E4, E5, E6, E7, E8, E11, D2, D3, D4, D5, D6, D7, D8}
use Rattle.ring.specs.declared.table.Phase.TheVariants.{Engine, Kind}
use Rattle.ring.specs.declared.answers.Refusal.{Refusal}
use Rattle.ring.specs.declared.answers.Refusal.TheVariants.{Misfit}
use Rattle.ring.specs.Fields.{with_pair, with_value, with_cell_pair}
use Rattle.ring.specs.Table.{occupied}
use Rattle.ring.specs.Turns.{Turn, KindStep, same_pair, is_empty, goes, passes, places, takes, KindRows, step_of}

-- the epoch after a round: no ticket of that round or an earlier one can be placed any more
abbrev pub next_epoch : Epoch → Epoch
next_epoch c = record { 0 = c.0 + 1 }

module _ {I : Type 0} where
  -- where a dequeue goes by the value read, from an epoch that is not above its round: exact says that it is the round. A token counts as an epoch above
  abbrev pub by_value : Worker I → Cell I → Value I → Bool → Result (Turn I) Refusal
  by_value w s Empty exact = goes w s (Kind D7)
  by_value w s (Token n) exact = passes w s
  by_value w s (Item i) exact = goes w s (Kind (cond exact D5 D8))

  -- head is Head, w the record of worker n, s its ticket's cell, and c its ticket's round
  abbrev pub crq_rows : KindRows I
  crq_rows head n w s c E3 = goes (with_pair w s.pair) s (Kind E4)
  crq_rows head n w s c E4 =
      goes (with_value w s.value) s (cond (is_empty s.value && nat_le w.pair.epoch.0 c.0) (Kind (cond w.pair.safe E6 E5)) (Engine E9))
  crq_rows head n w s c E5 = goes w s (cond (nat_le head w.ticket.0) (Kind E6) (Engine E9))
  crq_rows head n w s c E6 =
      cond (same_pair w.pair s.pair && is_empty s.value) (places w (with_cell_pair s (record { safe = true; epoch = c })) w.item) (goes w s (Engine E9))
  crq_rows head n w s c E7 = Err Misfit
  crq_rows head n w s c E8 = Err Misfit
  crq_rows head n w s c E11 = Err Misfit
  crq_rows head n w s c D2 = goes (with_pair w s.pair) s (Kind D3)
  crq_rows head n w s c D3 =
      cond (nat_lt c.0 w.pair.epoch.0) (passes (with_value w s.value) s) (by_value (with_value w s.value) s s.value (w.pair.epoch.0 == c.0))
  crq_rows head n w s c D4 = Err Misfit
  crq_rows head n w s c D5 =
      cond (occupied w.value)
      (cond (same_pair w.pair s.pair && occupied s.value) (takes w (with_cell_pair s (record { safe = s.pair.safe; epoch = next_epoch c })) w.value) (goes w s (Kind D2)))
      (Err Misfit)
  crq_rows head n w s c D6 = Err Misfit
  crq_rows head n w s c D7 =
      cond (same_pair w.pair s.pair && is_empty s.value) (passes w (with_cell_pair s (record { safe = s.pair.safe; epoch = next_epoch c }))) (goes w s (Kind D2))
  crq_rows head n w s c D8 =
      cond (same_pair w.pair s.pair && occupied s.value) (passes w (with_cell_pair s (record { safe = false; epoch = s.pair.epoch }))) (goes w s (Kind D2))

  -- the step of CRQ: these rows, one at a time
  abbrev pub crq_step : KindStep I
  crq_step = step_of crq_rows
