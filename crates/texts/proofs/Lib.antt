pub mod FormsRead
pub mod Reading
pub mod Writing
pub mod Ends
pub mod Single
pub mod Back
