pub mod Laws
pub mod Until
