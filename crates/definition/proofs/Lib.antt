pub mod Starred
pub mod SecondTable
pub mod Readings
pub mod Decided
pub mod InAnyOrder
pub mod BlockFiles
