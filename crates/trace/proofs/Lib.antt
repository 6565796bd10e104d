pub mod Example
pub mod Counting
pub mod Flags
pub mod Promises
pub mod Stepping
pub mod Going
pub mod Holding
pub mod Running
