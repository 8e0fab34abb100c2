pub mod Runs
pub mod Slips
