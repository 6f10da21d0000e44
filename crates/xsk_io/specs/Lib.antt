pub mod Bay
pub mod Memory
pub mod Files
pub mod Failing
