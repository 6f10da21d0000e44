pub mod Lengths
pub mod Places
pub mod Spans
pub mod Sharing
pub mod Going
pub mod Laying
