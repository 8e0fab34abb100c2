pub mod FirstTicket
