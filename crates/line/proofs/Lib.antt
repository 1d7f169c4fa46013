pub mod Composed
pub mod Puts
