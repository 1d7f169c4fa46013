pub mod Text
pub mod Entries
pub mod Laws
