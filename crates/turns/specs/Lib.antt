pub mod Found
pub mod Worked
