pub mod CodeLaws
pub mod LastOne
pub mod WriteLaws
