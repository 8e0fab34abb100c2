pub mod CallLine
pub mod LastLine
