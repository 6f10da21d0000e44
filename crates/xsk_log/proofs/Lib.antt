pub mod Places
pub mod Parts
pub mod RowLines
pub mod RowPlaces
pub mod StoredLines
pub mod RowDigits
pub mod Growing
pub mod Shown
