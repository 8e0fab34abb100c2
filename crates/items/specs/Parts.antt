-- Columns cut into fields and put together again.
use Rattle.std.specs.Prelude.{◌≡◌, ℕ, ◌+◌, List, ◌++◌, length, take, drop, Ok, Err, Result}
use Rattle.std.proofs.Common.{sym, ap, ◌∙◌, append_assoc, append-nil, arith}
use borrow.Rule.Slice.PartMut.{put_mid}
use Rattle.std.proofs.lemmas.List.{take_at, drop_all, length-append, take_all, drop_at, drop-drop, take-append-drop, length-drop}
use Rattle.columns.specs.Faults.{at_column}
use Rattle.columns.specs.declared.read_refusal.ReadRefusal.{ReadRefusal}

pub at_ok : {T : Type 0} (k : ℕ) (r : Result T ReadRefusal) (x : T) → at_column k r ≡ Ok x → r ≡ Ok x
at_ok k (Ok y) x e = let f : y ≡ x = cc in ap (λ z. Ok z) f
at_ok k (Err w) x e = cc

-- the first field, and what is behind it
pub first : (a rest : List ℕ) (n : ℕ) → length a ≡ n → take n (a ++ rest) ≡ a
first a rest n e = take_at a rest n e

pub next : (a b rest : List ℕ) (m n : ℕ) → length a ≡ m → length b ≡ n → take n (drop m (a ++ (b ++ rest))) ≡ b
next a b rest m n ea eb = ap (take n) (drop_at a (b ++ rest) m ea) ∙ take_at b rest n eb

pub last : (a b : List ℕ) (m n : ℕ) → length a ≡ m → length b ≡ n → take n (drop m (a ++ b)) ≡ b
last a b m n ea eb = ap (take n) (drop_at a b m ea) ∙ take_all n b (omega arith)

pub third : (a b d : List ℕ) (m n k : ℕ) → length a ≡ m → length b ≡ n → length d ≡ k → take k (drop (m + n) (a ++ (b ++ d))) ≡ d
third a b d m n k ea eb ed =
    ap (take k) (sym (drop-drop n m (a ++ (b ++ d))) ∙ ap (drop n) (drop_at a (b ++ d) m ea)) ∙ last b d n k eb ed

-- two fields that are all of the columns
pub whole_two : (cs : List ℕ) (m n : ℕ) → length cs ≡ m + n → take m cs ++ take n (drop m cs) ≡ cs
whole_two cs m n e = ap (λ l. take m cs ++ l) (take_all n (drop m cs) (omega (arith, length-drop m cs))) ∙ take-append-drop m cs

pub whole_three : (cs : List ℕ) (m n k : ℕ) → length cs ≡ m + (n + k) → take m cs ++ (take n (drop m cs) ++ take k (drop (m + n) cs)) ≡ cs
whole_three cs m n k e =
    ap (λ l. take m cs ++ (take n (drop m cs) ++ take k l)) (sym (drop-drop n m cs))
    ∙ ap (λ l. take m cs ++ l) (whole_two (drop m cs) n k (omega (arith, length-drop m cs)))
    ∙ take-append-drop m cs

-- a field written behind another, and between two

pub put_last : (a old new : List ℕ) (m n : ℕ) → length a ≡ m → length old ≡ n → put_mid m n (a ++ old) new ≡ a ++ new
put_last a old new m n ea eo =
    ap (λ l. l ++ (new ++ drop n (drop m (a ++ old)))) (take_at a old m ea)
    ∙ ap (λ l. a ++ (new ++ drop n l)) (drop_at a old m ea)
    ∙ ap (λ l. a ++ (new ++ l)) (drop_all n old (omega arith))
    ∙ ap (λ l. a ++ l) (append-nil new)

pub put_next : (a old rest new : List ℕ) (m n : ℕ) → length a ≡ m → length old ≡ n → put_mid m n (a ++ (old ++ rest)) new ≡ a ++ (new ++ rest)
put_next a old rest new m n ea eo =
    ap (λ l. l ++ (new ++ drop n (drop m (a ++ (old ++ rest))))) (take_at a (old ++ rest) m ea)
    ∙ ap (λ l. a ++ (new ++ drop n l)) (drop_at a (old ++ rest) m ea)
    ∙ ap (λ l. a ++ (new ++ l)) (drop_at old rest n eo)

pub put_third : (a b old new : List ℕ) (m k n : ℕ) → length a ≡ m → length b ≡ k → length old ≡ n → put_mid (m + k) n (a ++ (b ++ old)) new ≡ a ++ (b ++ new)
put_third a b old new m k n ea eb eo =
    let e : length (a ++ b) ≡ m + k = length-append a b ∙ omega arith in
    ap (λ l. put_mid (m + k) n l new) (sym (append_assoc a b old)) ∙ put_last (a ++ b) old new (m + k) n e eo ∙ append_assoc a b new
