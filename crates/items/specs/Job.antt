-- A job in fifteen columns: 1 to 6 its word, 7 to 15 its number, or blanks where it has none.
use Rattle.std.specs.Prelude.{ℕ, ◌+◌, cond, List, ◌++◌, take, drop, replicate, pos, Some, None, Ok, Err, codes, Option, Result, nat_le}
use Rattle.std.specs.Str.{bytes_eq}
use Rattle.columns.specs.Faults.{at_column}
use Rattle.columns.specs.Number.{field}
use Rattle.columns.specs.Reading.{unsigned_reading}
use Rattle.columns.specs.declared.fault.ColumnFault.{ColumnFault}
use Rattle.columns.specs.declared.read_refusal.ReadRefusal.TheVariants.{Form}
use Rattle.items.specs.declared.job.Job.{Job}
use Rattle.items.specs.declared.job.Job.TheVariants.{Block, Sweep, Flush, Stop}

-- columns 1 to 6 have the word
abbrev pub word_width : ℕ
word_width = 6

-- columns 7 to 15 have the number
abbrev pub number_width : ℕ
number_width = 9

-- the first column behind the word
abbrev pub number_column : ℕ
number_column = word_width + 1

-- a job's number is from 0 to this
abbrev pub number_most : ℕ
number_most = 999999999

-- `block`, right-justified in six columns
abbrev pub block_word : List ℕ
block_word = codes " block"

-- `sweep`, right-justified in six columns
abbrev pub sweep_word : List ℕ
sweep_word = codes " sweep"

-- `flush`, right-justified in six columns
abbrev pub flush_word : List ℕ
flush_word = codes " flush"

-- `stop`, right-justified in six columns
abbrev pub stop_word : List ℕ
stop_word = codes "  stop"

-- blanks in place of a number
abbrev pub no_number : List ℕ
no_number = replicate number_width 32

-- a word with its number behind it, where the number is in range
unfoldable pub numbered_text : List ℕ → ℕ → Option (List ℕ)
numbered_text word n = cond (nat_le n number_most) (Some (word ++ field number_width (pos n))) None

-- what a job writes, where its number is in range
abbrev pub job_text : Job → Option (List ℕ)
job_text (Block n) = numbered_text block_word n
job_text (Sweep n) = numbered_text sweep_word n
job_text Flush = Some (flush_word ++ no_number)
job_text Stop = Some (stop_word ++ no_number)

-- a job by the number that was read behind its word, or that number's fault
abbrev pub numbered : (ℕ → Job) → Result ℕ ColumnFault → Result Job ColumnFault
numbered job (Ok n) = Ok (job n)
numbered job (Err e) = Err e

-- the number behind a word, from 0 to 999,999,999; its fault stands at column 7
abbrev pub number_reading : List ℕ → Result ℕ ColumnFault
number_reading cs = at_column number_column (unsigned_reading 0 number_most cs)

-- a job without a number: anything but blanks behind its word is a fault of form at column 7
abbrev pub bare : Job → List ℕ → Result Job ColumnFault
bare job cs = cond (bytes_eq cs no_number) (Ok job) (Err (record { column = number_column; refusal = Form }))

-- the word first, then what stands behind it; a word that is none of the four is a fault of form at column 1
abbrev pub job_of : List ℕ → List ℕ → Result Job ColumnFault
job_of word rest =
    cond (bytes_eq word block_word) (numbered Block (number_reading rest))
    (cond (bytes_eq word sweep_word) (numbered Sweep (number_reading rest))
    (cond (bytes_eq word flush_word) (bare Flush rest)
    (cond (bytes_eq word stop_word) (bare Stop rest) (Err (record { column = 1; refusal = Form })))))

-- a job by its fifteen columns
unfoldable pub job_reading : List ℕ → Result Job ColumnFault
job_reading cs = job_of (take word_width cs) (take number_width (drop word_width cs))
