-- The letters of a play, and how many columns the line of each has.
use Rattle.std.specs.Prelude.{ℕ, cond, Some, None, Option, ◌==◌}
use Rattle.play.specs.declared.letter.OrderLetter.TheVariants.{Enqueue, Dequeue, Steps}
use Rattle.play.specs.declared.letter.Letter.{Letter}
use Rattle.play.specs.declared.letter.Letter.TheVariants.{Ring, Order}

-- the letters R, E, D and S, by their codes
abbrev pub code_of : Letter → ℕ
code_of Ring = 82
code_of (Order Enqueue) = 69
code_of (Order Dequeue) = 68
code_of (Order Steps) = 83

-- which letter a byte is, if it is one of the four
abbrev pub letter_of : ℕ → Option Letter
letter_of c = cond (c == 82) (Some Ring) (cond (c == 69) (Some (Order Enqueue)) (cond (c == 68) (Some (Order Dequeue)) (cond (c == 83) (Some (Order Steps)) None)))

-- the columns of a line, without its LF
abbrev pub width_of : Letter → ℕ
width_of Ring = 14
width_of (Order Enqueue) = 20
width_of (Order Dequeue) = 5
width_of (Order Steps) = 9
