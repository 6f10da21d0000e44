pub mod Fronts
pub mod Having
pub mod Noting
