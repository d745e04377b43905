pub mod Stuffing
pub mod Machine
pub mod Laws
