pub mod Behind
pub mod Data
pub mod Lists
pub mod OneMore
pub mod Places
pub mod Short
