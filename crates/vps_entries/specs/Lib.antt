pub mod MaxTid
pub mod Hrd
