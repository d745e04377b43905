pub mod Why
pub mod Cases
