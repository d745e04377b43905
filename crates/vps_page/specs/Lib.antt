pub mod Printed
pub mod Room
pub mod Reads
pub mod Cases
