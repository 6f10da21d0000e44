pub mod Beginning
pub mod Rounds
pub mod Seats
pub mod Serving
pub mod Telling
