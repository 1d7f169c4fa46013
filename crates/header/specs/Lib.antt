pub mod Polynomials
pub mod Code
pub mod Reading
pub mod Laws
