pub mod Decimal
pub mod Aligned
