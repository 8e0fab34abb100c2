pub mod Rows
pub mod Barred
pub mod Worked
pub mod Order
pub mod Turns
pub mod Laws
pub mod RoundTrip
