pub mod Texts
pub mod Tallies
pub mod Counting
pub mod Feeding
pub mod Waking
