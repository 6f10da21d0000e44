pub mod Hearing
pub mod Checking
pub mod Hinting
