pub mod Texts
pub mod Cuts
