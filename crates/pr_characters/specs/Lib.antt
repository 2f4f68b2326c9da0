pub mod File
pub mod Laws
pub mod Rows
