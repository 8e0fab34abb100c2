-- A player as the code holds it.
use Rattle.std.specs.Prelude.{true, vec_items}
use Rattle.calls.specs.Lent.{table_of}
use Rattle.report.specs.declared.player.Player.{Player}
use Rattle.report.specs.Running.{Running}

-- a player whose lines could all be written so far
abbrev pub playing : {I K : Type 0} → Player I K → Running I
playing p = record { table = table_of p.table; calls = p.calls; text = vec_items p.out; written = true }
