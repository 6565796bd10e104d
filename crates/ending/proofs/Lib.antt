pub mod Wanting
pub mod Finding
pub mod Counters
pub mod Naming
pub mod Counting
