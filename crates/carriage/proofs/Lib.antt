pub mod Queues
pub mod Arrivals
