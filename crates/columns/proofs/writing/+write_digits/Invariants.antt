use Rattle.columns.proofs.writing.+write_digits.Given as goal

-- the number loses a digit
abbrev pub decreases-write_digits : goal.decreases-write_digits
decreases-write_digits l = l.n
