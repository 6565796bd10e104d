pub mod Resolved
pub mod Moves
