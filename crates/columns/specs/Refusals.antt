-- The numbers that refusals go by.
use Rattle.std.specs.Prelude.{ℕ}
use Rattle.columns.specs.declared.read_refusal.ReadRefusal.{ReadRefusal}
use Rattle.columns.specs.declared.read_refusal.ReadRefusal.TheVariants as reading
use Rattle.columns.specs.declared.write_refusal.WriteRefusal.{WriteRefusal}
use Rattle.columns.specs.declared.write_refusal.WriteRefusal.TheVariants as writing

-- a reader's refusals: form is 23, range is 24
abbrev pub read_refusal_number : ReadRefusal → ℕ
read_refusal_number reading.Form = 23
read_refusal_number reading.Range = 24

-- a writer's refusals: narrow is 18, range is 24
abbrev pub write_refusal_number : WriteRefusal → ℕ
write_refusal_number writing.Narrow = 18
write_refusal_number writing.Range = 24
