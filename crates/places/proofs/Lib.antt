pub mod Finding
pub mod Found
pub mod Passing
pub mod Rows
pub mod Counting
pub mod Tags
pub mod Methods
