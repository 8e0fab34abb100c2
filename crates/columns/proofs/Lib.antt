pub mod Texts
pub mod Scan
pub mod Shapes
pub mod Laws
pub mod Readers
pub mod Writers
pub mod Rows
