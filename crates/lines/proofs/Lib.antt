pub mod CallLines
