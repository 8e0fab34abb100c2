-- The faults of a play, as they are printed: layer, number, line and column.
use Rattle.std.specs.Prelude.{ℕ, Ok, Err, Result}
use Rattle.columns.specs.Refusals.{read_refusal_number}
use Rattle.play.specs.declared.fault.LineFault.{LineFault}
use Rattle.play.specs.declared.fault.LineFault.TheVariants.{Cut, Letter, Column}
use Rattle.play.specs.declared.fault.PlayFault.{PlayFault}
use Rattle.play.specs.declared.fault.PlayFault.TheVariants.{Long, Header, Line}
use Rattle.play.specs.declared.fault.Place.{Place}

-- a fault of columns is of layer 1 and stands at its field's first column; one of the line itself is of layer 2, at column 1
abbrev pub line_placed : ℕ → LineFault → Place
line_placed n Cut = record { layer = 2; number = 21; line = n; column = 1 }
line_placed n Letter = record { layer = 2; number = 22; line = n; column = 1 }
line_placed n (Column f) = record { layer = 1; number = read_refusal_number f.refusal; line = n; column = f.column }

-- 26 stands at line 1 and 25 at its own line, both of layer 3 at column 1; any other fault is its line's
abbrev pub place_of : PlayFault → Place
place_of Long = record { layer = 3; number = 26; line = 1; column = 1 }
place_of (Header n) = record { layer = 3; number = 25; line = n; column = 1 }
place_of (Line n f) = line_placed n f

-- the line's number added to its fault
abbrev pub at_line : {X : Type 0} → Result X LineFault → ℕ → Result X PlayFault
at_line (Ok x) n = Ok x
at_line (Err f) n = Err (Line n f)
