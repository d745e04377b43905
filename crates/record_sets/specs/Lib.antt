pub mod Rows
pub mod Sets
pub mod Few
pub mod Reached
