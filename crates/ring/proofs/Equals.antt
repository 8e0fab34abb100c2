-- Equal wrapped numbers.
use Rattle.std.proofs.Common.{◌≡◌}
use Rattle.tickets.specs.declared.Ticket.{Ticket}
use Rattle.tickets.specs.declared.WorkerNo.{WorkerNo}

pub same_number : {n m : WorkerNo} → n.0 ≡ m.0 → n ≡ m
same_number p = λ i. record { 0 = p i }

pub same_ticket : {k l : Ticket} → k.0 ≡ l.0 → k ≡ l
same_ticket p = λ i. record { 0 = p i }
