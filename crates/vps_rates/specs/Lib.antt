pub mod Lines
pub mod Printed
pub mod Written
pub mod Turns
pub mod Room
pub mod Reads
pub mod Cases
