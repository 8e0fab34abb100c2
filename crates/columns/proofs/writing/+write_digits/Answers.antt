use Rattle.std.proofs.Common.{◌≡◌, ℕ, ◌+◌, ◌%◌, [], ◌∷◌, ◌++◌, length, sym, ap, ◌∙◌, arith, length-append, rules}
use Rattle.std.proofs.lemmas.List.{nil_from_length}
use Rattle.columns.proofs.Writers.{digits_more, digits_single}
use Rattle.columns.proofs.writing.+write_digits.Goals as goal

pub write_digits-requires : goal.write_digits-requires
write_digits-requires t c =
    let front = c.in-Some.front.now in
    let last = c.in-Some.last.now in
    let cut : c.args.columns.now ≡ front ++ (last ∷ []) = search rules in
    (omega arith, omega (arith, ap length cut, length-append front (last ∷ []), ap length (digits_more c.args.n c.if-n-ge10.true), length-append {A = ℕ}))

pub returns-then-n-ge10 : goal.returns-then-n-ge10
returns-then-n-ge10 t c = ap (λ l. l ++ ((48 + c.args.n % 10) ∷ [])) c.write_digits.ensures ∙ sym (digits_more c.args.n c.if-n-ge10.true)

pub returns-else-n-ge10 : goal.returns-else-n-ge10
returns-else-n-ge10 t c =
    let front = c.in-Some.front.now in
    let cut : c.args.columns.now ≡ front ++ (c.in-Some.last.now ∷ []) = search rules in
    let single = digits_single c.args.n c.if-n-ge10.false in
    let none : length front ≡ 0 = omega (arith, ap length cut, length-append front (c.in-Some.last.now ∷ []), ap length single) in
    ap (λ l. l ++ ((48 + c.args.n % 10) ∷ [])) (nil_from_length front none) ∙ sym single
