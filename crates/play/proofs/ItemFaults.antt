-- A fault of an item stands at one of the item's columns.
use Rattle.std.proofs.Common.{◌≡◌, ℕ, ◌≤◌, Bool, true, false, cond, List, take, drop, ℤ, Some, Ok, Err, Result, MatchResult, ap, subst, arith}
use Rattle.std.specs.Result.{result_err, IsOkAnd}
use Rattle.std.specs.Str.{bytes_eq}
use Rattle.columns.specs.declared.read_refusal.ReadRefusal.{ReadRefusal}
use Rattle.columns.specs.declared.read_refusal.ReadRefusal.TheVariants.{Form}
use Rattle.columns.specs.declared.fault.ColumnFault.{ColumnFault}
use Rattle.columns.specs.Faults.{at_column}
use Rattle.columns.specs.Reading.{unsigned_reading, signed_reading}
use Rattle.items.specs.declared.job.Job.{Job}
use Rattle.items.specs.declared.job.Job.TheVariants.{Block, Sweep, Flush, Stop}
use Rattle.items.specs.Patch.{face_width, face_most, zone_width, zone_start, zone_most, level_width, level_start, level_least, level_most, patch_of, patch_reading}
use Rattle.items.specs.Job.{number_width, word_width, block_word, sweep_word, flush_word, stop_word, number_reading, numbered, bare, job_of, job_reading}

-- where there is a fault, it stands at column 1 to 15
pub data Placed {X : Type 0} : Result X ColumnFault → Type 0 where
  fine : (x : X) → Placed (Ok x)
  there : (f : ColumnFault) → f.column ≤ 15 → Placed (Err f)

at_placed : {X : Type 0} (k : ℕ) (r : Result X ReadRefusal) → k ≤ 15 → Placed (at_column k r)
at_placed k (Ok x) h = fine x
at_placed k (Err e) h = there _ h

either : {X : Type 0} (b : Bool) (x y : Result X ColumnFault) → Placed x → Placed y → Placed (cond b x y)
either true x y p q = p
either false x y p q = q

patch_parts : (a b : Result ℕ ColumnFault) (d : Result ℤ ColumnFault) → Placed a → Placed b → Placed d → Placed (patch_of a b d)
patch_parts (Err e) b d (there f h) q r = there f h
patch_parts (Ok x) (Err e) d p (there f h) r = there f h
patch_parts (Ok x) (Ok y) (Err e) p q (there f h) = there f h
patch_parts (Ok x) (Ok y) (Ok z) p q r = fine _

pub patch_placed : (cs : List ℕ) → Placed (patch_reading cs)
unfolding patch_reading
patch_placed cs =
    patch_parts (at_column 1 (unsigned_reading 0 face_most (take face_width cs))) (at_column 9 (unsigned_reading 0 zone_most (take zone_width (drop zone_start cs))))
    (at_column 13 (signed_reading level_least level_most (take level_width (drop level_start cs)))) (at_placed 1 _ (omega arith)) (at_placed 9 _ (omega arith)) (at_placed 13 _ (omega arith))

numbered_placed : (job : ℕ → Job) (r : Result ℕ ColumnFault) → Placed r → Placed (numbered job r)
numbered_placed job (Ok n) h = fine (job n)
numbered_placed job (Err e) (there f h) = there f h

one : 1 ≤ 15
one = omega arith

seven : 7 ≤ 15
seven = omega arith

bare_placed : (job : Job) (cs : List ℕ) → Placed (bare job cs)
bare_placed job cs = either _ _ _ (fine job) (there _ seven)

word_placed : (word rest : List ℕ) → Placed (job_of word rest)
word_placed word rest =
    either (bytes_eq word block_word) _ _ (numbered_placed Block (number_reading rest) (at_placed 7 _ seven))
    (either (bytes_eq word sweep_word) _ _ (numbered_placed Sweep (number_reading rest) (at_placed 7 _ seven))
    (either (bytes_eq word flush_word) _ _ (bare_placed Flush rest) (either (bytes_eq word stop_word) _ _ (bare_placed Stop rest) (there (record { column = 1; refusal = Form }) one))))

pub job_placed : (cs : List ℕ) → Placed (job_reading cs)
unfolding job_reading
job_placed cs = word_placed (take word_width cs) (take number_width (drop word_width cs))

pub placed_fault : {X : Type 0} (r : Result X ColumnFault) (f : ColumnFault) → result_err r ≡ Some f → Placed r → f.column ≤ 15
placed_fault (Ok x) f e h = cc
placed_fault (Err g) f e (there k h) = let same : k ≡ f = cc in omega (arith, ap (λ (x : ColumnFault). x.column) same)

-- a fault that is passed on is the reading's
pub passed_fault : {X Y : Type 0} (r : Result X ColumnFault) (m : Result Y ColumnFault) (P : X → Y → Type 0) (f : ColumnFault) → MatchResult r (λ x. IsOkAnd m (P x)) (λ e. m ≡ Err e) → m ≡ Err f → result_err r ≡ Some f
passed_fault (Ok x) m P f h e = absurd (subst (λ (t : Result _ ColumnFault). IsOkAnd t (P x)) e h)
passed_fault (Err g) m P f h e = let same : g ≡ f = cc in ap Some same
