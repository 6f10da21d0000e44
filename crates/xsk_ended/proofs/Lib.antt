pub mod Apart
pub mod Lanes
pub mod Ended
pub mod Within
pub mod Until
pub mod Shown
pub mod Cutting
pub mod Unstranded
