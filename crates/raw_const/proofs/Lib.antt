pub mod Shaped
pub mod Table
pub mod Writes
pub mod Rows
pub mod Readers
pub mod Single
