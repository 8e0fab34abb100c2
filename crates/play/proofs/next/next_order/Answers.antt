-- By the text of the order that stands in front.
use Rattle.std.proofs.Common.{◌≡◌, ◌+◌, ◌-◌, ◌<◌, length, ◌++◌, get_or, take, Ok, sym, ap, ◌∙◌, subst, arith, rules}
use Rattle.std.proofs.lemmas.List.{take_rest}
use Rattle.play.specs.Letters.{letter_of}
use Rattle.play.specs.Orders.{plain, heard, order_reading}
use Rattle.play.specs.Play.{order_letter}
use Rattle.play.specs.Promise.{FirstOrder}
use Rattle.play.specs.Text.{order_text}
use Rattle.play.proofs.Fields.{never_both, told_ok, told_none}
use Rattle.play.proofs.ItemKinds.{item_laws}
use Rattle.play.proofs.NextOrder.{front_room, front_ends, front_read, read_front}
use Rattle.play.proofs.next.next_order.Goals as goal

pub returns-then-rest-width : goal.returns-then-rest-width
returns-then-rest-width c = λ o more fits front.
    let rest = c.args.rest.now in
    let begins : c.from.result ≡ get_or rest 0 0 = search rules in
    let opened : c.open_order.result ≡ Ok c.in_ok-letter.letter = told_ok _ _ (sym c.ok.ensures.value ∙ c.in_ok-letter.was) in
    let opens : order_letter 1 (letter_of (get_or rest 0 0)) ≡ Ok c.in_ok-letter.letter = sym (c.open_order.ensures ∙ ap (λ b. order_letter 1 (letter_of b)) begins) ∙ opened in
    let room = front_room item_laws c.args.items rest o more fits front 1 c.in_ok-letter.letter opens in
    let ends = ap (λ m. get_or rest m 0) c.width-width.ensures ∙ front_ends item_laws c.args.items rest o more fits front 1 c.in_ok-letter.letter opens in
    grind arith

pub returns-in_err-order : goal.returns-in_err-order
returns-in_err-order c =
    let rest = c.args.rest.now in
    let begins : c.from.result ≡ get_or rest 0 0 = search rules in
    let opened : c.open_order.result ≡ Ok c.in_ok-letter.letter = told_ok _ _ (sym c.ok.ensures.value ∙ c.in_ok-letter.was) in
    let opens : order_letter 1 (letter_of (get_or rest 0 0)) ≡ Ok c.in_ok-letter.letter = sym (c.open_order.ensures ∙ ap (λ b. order_letter 1 (letter_of b)) begins) ∙ opened in
    let none : c.width-width.result - 0 ≡ c.width-width.result = omega arith in
    subst (FirstOrder c.args.items rest) (sym c.from_residual-in_err-order.ensures) (λ o more fits front.
    let read = front_read item_laws c.args.items rest o more fits front 1 c.in_ok-letter.letter opens in
    let wide = ap (λ m. order_reading c.args.items c.in_ok-letter.letter (take m rest)) (none ∙ c.width-width.ensures) in
    let none_read = told_none _ (sym c.ok-2.ensures.value ∙ c.in_err-order.was) in
    never_both none_read.0 o (sym (ap heard none_read.1) ∙ c.read_order.ensures ∙ wide ∙ read))

pub returns : goal.returns
returns c =
    let rest = c.args.rest.now in
    let order = c.in_ok-order.order in
    let begins : c.from.result ≡ get_or rest 0 0 = search rules in
    let opened : c.open_order.result ≡ Ok c.in_ok-letter.letter = told_ok _ _ (sym c.ok.ensures.value ∙ c.in_ok-letter.was) in
    let opens : order_letter 1 (letter_of (get_or rest 0 0)) ≡ Ok c.in_ok-letter.letter = sym (c.open_order.ensures ∙ ap (λ b. order_letter 1 (letter_of b)) begins) ∙ opened in
    let none : c.width-width.result - 0 ≡ c.width-width.result = omega arith in
    let read = ap (λ m. order_reading c.args.items c.in_ok-letter.letter (take m rest)) (sym none) ∙ sym c.read_order.ensures ∙ ap heard (told_ok _ _ (sym c.ok-2.ensures.value ∙ c.in_ok-order.was)) in
    let room : c.width-width.result < length rest = omega arith in
    let ended : get_or rest c.width-width.result 0 ≡ 10 = cc in
    let said = read_front item_laws c.args.items rest 1 c.width-width.result c.in_ok-letter.letter (plain order) opens c.width-width.ensures room ended read in
    (said.0, said.1 ∙ ap (λ x. order_text (plain order) ++ x) (sym (take_rest rest (c.width-width.result + 1))))
