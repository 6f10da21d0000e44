pub mod Report
pub mod Counters
