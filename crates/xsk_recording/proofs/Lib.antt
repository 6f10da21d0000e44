pub mod Entries
pub mod Lines
pub mod Feeds
pub mod Ends
pub mod OneVerdict
pub mod Small
pub mod Going
pub mod Counting
