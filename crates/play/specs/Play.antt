-- What the bytes of a play say: its header and its orders, or its first fault in line order.
use Rattle.std.specs.Prelude.{ℕ, suc, Bool, false, cond, ◌&&◌, List, [], ◌∷◌, length, Some, None, Ok, Err, Option, Result, ◌==◌, nat_lt, slice_index_or}
use Rattle.play.specs.declared.fault.PlayFault.{PlayFault}
use Rattle.play.specs.declared.fault.PlayFault.TheVariants as play_fault
use Rattle.play.specs.declared.fault.LineFault.TheVariants as line_fault
use Rattle.play.specs.declared.header.Header.{Header}
use Rattle.play.specs.declared.header.ItemChoice.{ItemChoice}
use Rattle.play.specs.declared.letter.OrderLetter.{OrderLetter}
use Rattle.play.specs.declared.letter.Letter.{Letter}
use Rattle.play.specs.declared.letter.Letter.TheVariants.{Ring, Order}
use Rattle.play.specs.Lines.{LF, Line, lines_of}
use Rattle.play.specs.Letters.{letter_of, width_of}
use Rattle.play.specs.Faults.{at_line}
use Rattle.play.specs.Orders.{PlainOrder, header_reading, order_reading}

-- a play as values: its header and its orders
pub record PlainPlay : Type 0 where
  pub header : Header
  pub orders : List PlainOrder

-- the letter of line 1: an unknown one is 22, and then any other than `R` is 25
abbrev pub first_letter : Option Letter → Result Unit PlayFault
first_letter None = Err (play_fault.Line 1 line_fault.Letter)
first_letter (Some Ring) = Ok tt
first_letter (Some (Order o)) = Err (play_fault.Header 1)

-- the letter of a line n behind the first: an unknown one is 22, an `R` is 25
abbrev pub order_letter : ℕ → Option Letter → Result OrderLetter PlayFault
order_letter n None = Err (play_fault.Line n line_fault.Letter)
order_letter n (Some Ring) = Err (play_fault.Header n)
order_letter n (Some (Order o)) = Ok o

-- the letter in column 1; an empty line has none
abbrev pub letter_in : Line → Option Letter
letter_in l = letter_of (slice_index_or l.columns 0 LF)

-- w columns with an LF behind them
abbrev pub whole : ℕ → Line → Bool
whole w l = length l.columns == w && l.ended

-- the header in line 1 by its letter: then the length (21), then the columns
abbrev pub header_opened : Line → Result Unit PlayFault → Result Header PlayFault
header_opened l (Err f) = Err f
header_opened l (Ok u) = cond (whole (width_of Ring) l) (at_line (header_reading l.columns) 1) (Err (play_fault.Line 1 line_fault.Cut))

-- the header in line 1, or that line's first fault
abbrev pub header_line : Line → Result Header PlayFault
header_line l = header_opened l (first_letter (letter_in l))

-- the order in line n by its letter: then the length (21), then the columns
abbrev pub order_opened : ItemChoice → ℕ → Line → Result OrderLetter PlayFault → Result PlainOrder PlayFault
order_opened items n l (Err f) = Err f
order_opened items n l (Ok k) = cond (whole (width_of (Order k)) l) (at_line (order_reading items k l.columns) n) (Err (play_fault.Line n line_fault.Cut))

-- the order in line n, or that line's first fault
abbrev pub order_line : ItemChoice → ℕ → Line → Result PlainOrder PlayFault
order_line items n l = order_opened items n l (order_letter n (letter_in l))

-- the first fault in line order decides
abbrev pub before : Result PlainOrder PlayFault → Result (List PlainOrder) PlayFault → Result (List PlainOrder) PlayFault
before (Err f) os = Err f
before (Ok o) (Err f) = Err f
before (Ok o) (Ok os) = Ok (o ∷ os)

-- the orders of the lines from line n on
abbrev pub order_lines : ItemChoice → ℕ → List Line → Result (List PlainOrder) PlayFault
order_lines items n [] = Ok []
order_lines items n (l ∷ ls) = before (order_line items n l) (order_lines items (suc n) ls)

-- the header with its orders, or the orders' first fault
abbrev pub with_orders : Header → Result (List PlainOrder) PlayFault → Result PlainPlay PlayFault
with_orders h (Err f) = Err f
with_orders h (Ok os) = Ok (record { header = h; orders = os })

-- the header's fault, else the orders from line 2 on
abbrev pub play_from : Result Header PlayFault → List Line → Result PlainPlay PlayFault
play_from (Err f) ls = Err f
play_from (Ok h) ls = with_orders h (order_lines h.items 2 ls)

-- an empty play lacks its header
abbrev pub play_lines : List Line → Result PlainPlay PlayFault
play_lines [] = Err (play_fault.Header 1)
play_lines (l ∷ ls) = play_from (header_line l) ls

-- how many bytes a play may have
abbrev pub longest : ℕ
longest = 60000

-- what the bytes say: over 60,000 of them are 26, whatever the lines say
abbrev pub play_reading : List ℕ → Result PlainPlay PlayFault
play_reading bytes = cond (nat_lt longest (length bytes)) (Err play_fault.Long) (play_lines (lines_of bytes))

-- the fault, where there is one
abbrev pub fault_part : {X : Type 0} → Result X PlayFault → Option PlayFault
fault_part (Ok x) = None
fault_part (Err f) = Some f

-- the first of several lines has w columns with an LF behind them
abbrev pub first_whole : ℕ → List Line → Bool
first_whole w [] = false
first_whole w (l ∷ ls) = whole w l

-- the header in the first of several lines; without a line it is missing at line 1
abbrev pub first_header : List Line → Result Header PlayFault
first_header [] = Err (play_fault.Header 1)
first_header (l ∷ ls) = header_line l
