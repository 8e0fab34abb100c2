-- A refusal with the field that it is about.
use Rattle.std.specs.Prelude.{ℕ, Ok, Err, Result}
use Rattle.columns.specs.declared.fault.ColumnFault.{ColumnFault}
use Rattle.columns.specs.declared.read_refusal.ReadRefusal.{ReadRefusal}

-- what was read from a field that begins at this column
abbrev pub at_column : {T : Type 0} → ℕ → Result T ReadRefusal → Result T ColumnFault
at_column k (Ok x) = Ok x
at_column k (Err e) = Err (record { column = k; refusal = e })
