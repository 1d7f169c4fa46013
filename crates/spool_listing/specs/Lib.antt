pub mod Text
pub mod Listings
