pub mod Ways
pub mod Continues
pub mod Opens
pub mod Counting
