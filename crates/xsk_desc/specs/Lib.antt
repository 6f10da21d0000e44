pub mod Fault
pub mod Gather
pub mod Unfinished
pub mod Laws
