pub mod Fates
pub mod Meaning
pub mod Queues
pub mod Laws
