pub mod Standing
pub mod Passing
pub mod Giving
pub mod Ending
pub mod Emptying
pub mod Calls
