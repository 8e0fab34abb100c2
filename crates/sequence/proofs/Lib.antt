pub mod Sequences
pub mod MadeBooks
