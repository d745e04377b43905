pub mod SoFar
pub mod Packing
pub mod Holds
pub mod Puts
pub mod Laws
