pub mod Cells
pub mod Faults
