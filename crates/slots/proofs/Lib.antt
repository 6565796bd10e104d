pub mod Rows
pub mod Scans
pub mod Answers
pub mod Writing
pub mod Counting
pub mod Given
pub mod Checks
pub mod Single
