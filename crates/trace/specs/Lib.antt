pub mod Trace
pub mod Step
pub mod Promises
pub mod Answers
