pub mod Drafts
pub mod Plans
pub mod Lines
