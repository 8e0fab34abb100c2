-- A fault line always fits: layers, numbers, lines and columns are small.
use Rattle.std.proofs.Common.{◌≡◌, ℕ, suc, ◌+◌, ◌-◌, ◌≤◌, true, eqb, ltb, List, [], ◌∷◌, length, take, drop, Some, None, Ok, Err, Option, Result, subst, arith}
use Rattle.std.proofs.lemmas.Bool.{cond_both, ltb-false}
use Rattle.columns.specs.declared.fault.ColumnFault.{ColumnFault}
use Rattle.columns.specs.declared.read_refusal.ReadRefusal.{ReadRefusal}
use Rattle.columns.specs.declared.read_refusal.ReadRefusal.TheVariants.{Form, Range}
use Rattle.columns.specs.Faults.{at_column}
use Rattle.columns.specs.Reading.{unsigned_reading}
use Rattle.columns.specs.Refusals.{read_refusal_number}
use Rattle.columns.specs.Row.{row_fits}
use Rattle.items.specs.Patch.{patch_reading}
use Rattle.items.specs.Job.{job_reading}
use Rattle.play.specs.declared.fault.LineFault.{LineFault}
use Rattle.play.specs.declared.fault.LineFault.TheVariants.{Cut, Letter, Column}
use Rattle.play.specs.declared.fault.PlayFault.{PlayFault}
use Rattle.play.specs.declared.fault.PlayFault.TheVariants as play_fault
use Rattle.play.specs.declared.header.Header.{Header}
use Rattle.play.specs.declared.header.ItemChoice.{ItemChoice}
use Rattle.play.specs.declared.header.ItemChoice.TheVariants.{Patch, Job}
use Rattle.play.specs.declared.letter.Letter.{Letter as TheLetter}
use Rattle.play.specs.declared.letter.Letter.TheVariants.{Ring, Order}
use Rattle.play.specs.declared.letter.OrderLetter.{OrderLetter}
use Rattle.play.specs.declared.letter.OrderLetter.TheVariants.{Enqueue, Dequeue, Steps}
use Rattle.play.specs.Letters.{width_of}
use Rattle.play.specs.Lines.{LF, Line, in_front, lines_of}
use Rattle.play.specs.Faults.{place_of, at_line}
use Rattle.play.specs.FaultLine.{place_fields}
use Rattle.play.specs.Orders.{PlainOrder, field_reading, checked, item_check, header_from, header_reading, enqueue_from, dequeue_from, steps_from, order_reading}
use Rattle.play.specs.Play.{first_letter, order_letter, letter_in, whole, header_opened, header_line, order_opened, order_line, before, order_lines, with_orders, play_from, play_lines, longest, play_reading}
use Rattle.play.proofs.ItemFaults.{Placed, patch_placed, job_placed, there}
use Rattle.report.proofs.SmallRows.{small_fits}

-- a fault of columns stands at the twentieth or before
abbrev Low : {X : Type 0} → Result X ColumnFault → Type 0
Low (Ok x) = Unit {0}
Low (Err f) = f.column ≤ 20

abbrev InLine : LineFault → Type 0
InLine Cut = Unit {0}
InLine Letter = Unit {0}
InLine (Column f) = f.column ≤ 20

abbrev LowLine : {X : Type 0} → Result X LineFault → Type 0
LowLine (Ok x) = Unit {0}
LowLine (Err f) = InLine f

-- a fault of a play stands in line m or before, at column 20 or before
abbrev Within : ℕ → PlayFault → Type 0
Within m f = ((place_of f).line ≤ m) × ((place_of f).column ≤ 20)

abbrev Sits : {X : Type 0} → ℕ → Result X PlayFault → Type 0
Sits m (Ok x) = Unit {0}
Sits m (Err f) = Within m f

at_low : {X : Type 0} (k : ℕ) (r : Result X ReadRefusal) → k ≤ 20 → Low (at_column k r)
at_low k (Ok x) h = tt
at_low k (Err e) h = h

field_low : (first last least most : ℕ) (line : List ℕ) → first ≤ 20 → Low (field_reading first last least most line)
field_low first last least most line h = at_low first (unsigned_reading least most (take (last - (first - 1)) (drop (first - 1) line))) h

checked_low : {X : Type 0} (r : Result X ColumnFault) → Placed r → Low (checked r)
checked_low (Ok x) p = tt
checked_low (Err e) (there f h) = omega arith

item_low : (items : ItemChoice) (cs : List ℕ) → Low (item_check items cs)
item_low Patch cs = checked_low (patch_reading cs) (patch_placed cs)
item_low Job cs = checked_low (job_reading cs) (job_placed cs)

header_low : (r c w i : Result ℕ ColumnFault) → Low r → Low c → Low w → Low i → LowLine (header_from r c w i)
header_low (Err f) c w i p q s t = p
header_low (Ok x) (Err f) w i p q s t = q
header_low (Ok x) (Ok y) (Err f) i p q s t = s
header_low (Ok x) (Ok y) (Ok z) (Err f) p q s t = t
header_low (Ok x) (Ok y) (Ok z) (Ok k) p q s t = tt

enqueue_low : (w : Result ℕ ColumnFault) (i : Result (Unit {0}) ColumnFault) (cs : List ℕ) → Low w → Low i → LowLine (enqueue_from w i cs)
enqueue_low (Err f) i cs p q = p
enqueue_low (Ok x) (Err f) cs p q = q
enqueue_low (Ok x) (Ok u) cs p q = tt

dequeue_low : (w : Result ℕ ColumnFault) → Low w → LowLine (dequeue_from w)
dequeue_low (Err f) p = p
dequeue_low (Ok x) p = tt

steps_low : (w n : Result ℕ ColumnFault) → Low w → Low n → LowLine (steps_from w n)
steps_low (Err f) n p q = p
steps_low (Ok x) (Err f) p q = q
steps_low (Ok x) (Ok y) p q = tt

order_low : (items : ItemChoice) (k : OrderLetter) (line : List ℕ) → LowLine (order_reading items k line)
order_low items Enqueue line =
    enqueue_low (field_reading 2 5 1 64 line) (item_check items (take 15 (drop 5 line))) (take 15 (drop 5 line)) (field_low 2 5 1 64 line (omega arith)) (item_low items (take 15 (drop 5 line)))
order_low items Dequeue line = dequeue_low (field_reading 2 5 1 64 line) (field_low 2 5 1 64 line (omega arith))
order_low items Steps line = steps_low (field_reading 2 5 1 64 line) (field_reading 6 9 1 9999 line) (field_low 2 5 1 64 line (omega arith)) (field_low 6 9 1 9999 line (omega arith))

fault_sits : (n : ℕ) (f : LineFault) → InLine f → Within n (play_fault.Line n f)
fault_sits n Cut h = (omega arith, omega arith)
fault_sits n Letter h = (omega arith, omega arith)
fault_sits n (Column f) h = (omega arith, h)

line_sits : {X : Type 0} (n : ℕ) (r : Result X LineFault) → LowLine r → Sits n (at_line r n)
line_sits n (Ok x) h = tt
line_sits n (Err f) h = fault_sits n f h

header_sits : (l : Line) (o : Option TheLetter) → Sits 1 (header_opened l (first_letter o))
header_sits l None = (omega arith, omega arith)
header_sits l (Some Ring) =
    cond_both (whole (width_of Ring) l) _ _ (Sits 1)
    (λ _. line_sits 1 (header_reading l.columns)
    (header_low (field_reading 2 3 1 2 l.columns) (field_reading 4 8 1 1024 l.columns) (field_reading 9 12 1 64 l.columns) (field_reading 13 14 1 2 l.columns)
    (field_low 2 3 1 2 l.columns (omega arith)) (field_low 4 8 1 1024 l.columns (omega arith)) (field_low 9 12 1 64 l.columns (omega arith)) (field_low 13 14 1 2 l.columns (omega arith))))
    (λ _. (omega arith, omega arith))
header_sits l (Some (Order k)) = (omega arith, omega arith)

order_sits : (items : ItemChoice) (n : ℕ) (l : Line) (o : Option TheLetter) → Sits n (order_opened items n l (order_letter n o))
order_sits items n l None = (omega arith, omega arith)
order_sits items n l (Some Ring) = (omega arith, omega arith)
order_sits items n l (Some (Order k)) =
    cond_both (whole (width_of (Order k)) l) _ _ (Sits n) (λ _. line_sits n (order_reading items k l.columns) (order_low items k l.columns)) (λ _. (omega arith, omega arith))

before_sits : (m n : ℕ) (o : Result PlainOrder PlayFault) (os : Result (List PlainOrder) PlayFault) → m ≤ n → Sits m o → Sits n os → Sits n (before o os)
before_sits m n (Err f) os h p q = (omega (arith, p.0), p.1)
before_sits m n (Ok o) (Err f) h p q = q
before_sits m n (Ok o) (Ok os) h p q = tt

orders_sit : (items : ItemChoice) (n : ℕ) (ls : List Line) → Sits (n + length ls) (order_lines items n ls)
orders_sit items n [] = tt
orders_sit items n (l ∷ ls) =
    let same : suc n + length ls ≡ n + length (l ∷ ls) = omega arith in
    before_sits n (n + length (l ∷ ls)) (order_line items n l) (order_lines items (suc n) ls) (omega arith) (order_sits items n l (letter_in l))
    (subst (λ m. Sits m (order_lines items (suc n) ls)) same (orders_sit items (suc n) ls))

with_sits : (m : ℕ) (h : Header) (r : Result (List PlainOrder) PlayFault) → Sits m r → Sits m (with_orders h r)
with_sits m h (Err f) p = p
with_sits m h (Ok os) p = tt

from_sits : (r : Result Header PlayFault) (ls : List Line) → Sits 1 r → Sits (2 + length ls) (play_from r ls)
from_sits (Err f) ls p = (omega (arith, p.0), p.1)
from_sits (Ok h) ls p = with_sits (2 + length ls) h (order_lines h.items 2 ls) (orders_sit h.items 2 ls)

lines_sit : (ls : List Line) → Sits (1 + length ls) (play_lines ls)
lines_sit [] = (omega arith, omega arith)
lines_sit (l ∷ ls) =
    let same : 2 + length ls ≡ 1 + length (l ∷ ls) = omega arith in
    subst (λ m. Sits m (play_from (header_line l) ls)) same (from_sits (header_line l) ls (header_sits l (letter_in l)))

-- a text has no more lines than bytes
front_few : (b : ℕ) (ls : List Line) → length (in_front b ls) ≤ 1 + length ls
front_few b [] = omega arith
front_few b (l ∷ ls) = omega arith

lines_few : (bs : List ℕ) → length (lines_of bs) ≤ length bs
lines_few [] = omega arith
lines_few (b ∷ bs) =
    cond_both (eqb b LF) (record { columns = []; ended = true } ∷ lines_of bs) (in_front b (lines_of bs)) (λ ls. length ls ≤ length (b ∷ bs)) (λ _. omega (arith, lines_few bs))
    (λ _. omega (arith, lines_few bs, front_few b (lines_of bs)))

sits_later : {X : Type 0} (m n : ℕ) (r : Result X PlayFault) → m ≤ n → Sits m r → Sits n r
sits_later m n (Ok x) h p = tt
sits_later m n (Err f) h p = (omega (arith, p.0), p.1)

play_sits : (bytes : List ℕ) → Sits 60001 (play_reading bytes)
play_sits bytes =
    cond_both (ltb longest (length bytes)) (Err play_fault.Long) (play_lines (lines_of bytes)) (Sits 60001) (λ _. (omega arith, omega arith))
    (λ e. sits_later (1 + length (lines_of bytes)) 60001 (play_lines (lines_of bytes)) (omega (arith, ltb-false longest (length bytes) e, lines_few bytes)) (lines_sit (lines_of bytes)))

-- layers are 1 to 3, and numbers 21 to 26
refusal_low : (e : ReadRefusal) → read_refusal_number e ≤ 26
refusal_low Form = omega arith
refusal_low Range = omega arith

fault_low : (f : PlayFault) → ((place_of f).layer ≤ 3) × ((place_of f).number ≤ 26)
fault_low play_fault.Long = (omega arith, omega arith)
fault_low (play_fault.Header n) = (omega arith, omega arith)
fault_low (play_fault.Line n Cut) = (omega arith, omega arith)
fault_low (play_fault.Line n Letter) = (omega arith, omega arith)
fault_low (play_fault.Line n (Column f)) = (omega arith, refusal_low f.refusal)

pub fault_fits : (bytes : List ℕ) (f : PlayFault) → play_reading bytes ≡ Err f → row_fits (place_fields (place_of f)) ≡ true
fault_fits bytes f e =
    let at = subst (Sits 60001) e (play_sits bytes) in
    let low = fault_low f in
    small_fits (place_fields (place_of f)) (omega arith, omega arith, (omega arith, omega arith, (omega arith, omega (arith, at.0), (omega arith, omega (arith, at.1), tt))))
