pub mod Ran
pub mod Stages
pub mod Promises
