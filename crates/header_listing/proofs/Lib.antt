pub mod Short
pub mod Entered
pub mod Numbers
pub mod Corrected
