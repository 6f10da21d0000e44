pub mod Cutting
pub mod Listing
pub mod Tables
pub mod Spelling
pub mod Building
pub mod Reading
pub mod Programs
