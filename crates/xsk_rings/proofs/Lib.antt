pub mod Looping
pub mod Telling
pub mod Rounds
pub mod Checking
