pub mod Firsts
pub mod States
pub mod Sizes
