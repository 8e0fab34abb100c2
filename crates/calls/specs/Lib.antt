pub mod Promise
pub mod Turns
pub mod Laying
pub mod Lent
