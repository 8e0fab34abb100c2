-- Where a ticket belongs: its round and its cell, in a ring of r cells.
use Rattle.std.specs.Prelude.{ℕ, ◌/◌, ◌%◌}
use Rattle.tickets.specs.declared.Ticket.{Ticket}
use Rattle.tickets.specs.declared.Epoch.{Epoch}

-- the ticket's round: the whole quotient
abbrev pub round : ℕ → Ticket → Epoch
round r t = record { 0 = t.0 / r }

-- the ticket's cell, by its index: the remainder
abbrev pub slot : ℕ → Ticket → ℕ
slot r t = t.0 % r
