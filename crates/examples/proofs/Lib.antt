pub mod Headers
pub mod HeaderListings
pub mod Lines
pub mod SpoolListings
