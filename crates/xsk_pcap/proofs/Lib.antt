pub mod Fields
pub mod Grammar
pub mod Unique
pub mod CaptureLaws
pub mod Loops
pub mod Writing
pub mod LaidRecords
