pub mod Redirect
pub mod Chain
pub mod Program
pub mod Rules
