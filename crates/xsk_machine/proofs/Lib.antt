pub mod Acts
pub mod Beginning
pub mod Figured
pub mod KindCounts
pub mod Making
pub mod Ruling
pub mod Splitting
pub mod Within
