pub mod Computed
pub mod Tables
pub mod Sealed
pub mod Found
