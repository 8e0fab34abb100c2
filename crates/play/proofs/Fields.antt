-- Fields of a line and the numbers they write.
use Rattle.std.proofs.Common.{◌≡◌, ℕ, ◌+◌, ◌-◌, ◌^◌, ◌<◌, ◌≤◌, List, [], ◌∷◌, ◌++◌, length, get_or, take, drop, pos, Some, None, Ok, Err, Result, sym, refl, ap, ◌∙◌, arith}
use Rattle.std.proofs.lemmas.List.{length-drop, length-take-le, take_all, drop-drop, take-append-drop}
use Rattle.std.specs.Result.{result_ok}
use Rattle.std.proofs.lemmas.Bool.Decides.{nat_tests}
use Rattle.columns.specs.declared.read_refusal.ReadRefusal.{ReadRefusal}
use Rattle.columns.specs.Faults.{at_column}
use Rattle.columns.specs.Number.{field}
use Rattle.columns.specs.Reading.{unsigned_reading}
use Rattle.columns.proofs.Laws.{length_field, length_text, unsigned_back, unsigned_only}
use Rattle.play.specs.declared.letter.Letter.{Letter}
use Rattle.play.specs.declared.letter.Letter.TheVariants.{Ring, Order}
use Rattle.play.specs.declared.letter.OrderLetter.TheVariants.{Enqueue, Dequeue, Steps}
use Rattle.play.specs.Letters.{letter_of, code_of}
use Rattle.play.specs.Text.{Within}

-- a letter has one code
pub letter_code : (c : ℕ) (x : Letter) → letter_of c ≡ Some x → c ≡ code_of x
letter_code c Ring e = grind (arith, nat_tests)
letter_code c (Order Enqueue) e = grind (arith, nat_tests)
letter_code c (Order Dequeue) e = grind (arith, nat_tests)
letter_code c (Order Steps) e = grind (arith, nat_tests)

at_column_ok : (c n : ℕ) (r : Result ℕ ReadRefusal) → at_column c r ≡ Ok n → r ≡ Ok n
at_column_ok c n (Ok m) e = let same : m ≡ n = cc in ap Ok same
at_column_ok c n (Err f) e = cc

-- a field that was read is the text of its number
pub field_only : (first w least most : ℕ) (line : List ℕ) (n : ℕ) → at_column first (unsigned_reading least most (take w (drop (first - 1) line))) ≡ Ok n → first - 1 + w ≤ length line
    → (take w (drop (first - 1) line) ≡ field w (pos n)) × Within least most n
field_only first w least most line n e h =
    let said = unsigned_only least most (take w (drop (first - 1) line)) n (at_column_ok first n (unsigned_reading least most (take w (drop (first - 1) line))) e) in
    let wide : length (take w (drop (first - 1) line)) ≡ w = length-take-le w (drop (first - 1) line) (omega (arith, length-drop (first - 1) line)) in
    (said.0 ∙ ap (λ m. field m (pos n)) wide, (said.1, said.2))

-- the text of a number in range is read as it
pub field_back : (first w least most n : ℕ) (cs : List ℕ) → 0 < w → most < 10 ^ w → Within least most n → cs ≡ field w (pos n) → at_column first (unsigned_reading least most cs) ≡ Ok n
field_back first w least most n cs p q r e = ap (λ x. at_column first (unsigned_reading least most x)) e ∙ ap (at_column first) (unsigned_back w least most n p q r.0 r.1)

pub wide_field : (w most n : ℕ) → 0 < w → most < 10 ^ w → n ≤ most → length (field w (pos n)) ≡ w
wide_field w most n p q r = length_field w (pos n) (length_text w n p (omega arith))

-- a line by its first column and the rest, and the rest by parts
pub by_first : (cs : List ℕ) (d : ℕ) → 0 < length cs → cs ≡ get_or cs 0 d ∷ drop 1 cs
by_first [] d h = absurd (omega arith)
by_first (c ∷ cs) d h = refl

pub by_parts : (m n : ℕ) (cs : List ℕ) → drop m cs ≡ take n (drop m cs) ++ drop (m + n) cs
by_parts m n cs = sym (take-append-drop n (drop m cs)) ∙ ap (λ x. take n (drop m cs) ++ x) (drop-drop n m cs)

pub last_part : (m n : ℕ) (cs : List ℕ) → length cs ≡ m + n → take n (drop m cs) ≡ drop m cs
last_part m n cs h = take_all n (drop m cs) (omega (arith, length-drop m cs))

pub never_both : {A T E : Type 0} (e : E) (x : T) → ◌≡◌ {A = Result T E} (Err e) (Ok x) → A
never_both e x p = cc

-- a value that is kept where its error is let go
pub told_ok : {T E : Type 0} (r : Result T E) (x : T) → result_ok r ≡ Some x → r ≡ Ok x
told_ok (Ok y) x e = let same : y ≡ x = cc in ap Ok same
told_ok (Err f) x e = cc

pub told_none : {T E : Type 0} (r : Result T E) → result_ok r ≡ None → (f : E) × (r ≡ Err f)
told_none (Ok y) e = cc
told_none (Err f) e = (f, refl)
