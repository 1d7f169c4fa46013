pub mod Records
pub mod Surveys
pub mod Spools
