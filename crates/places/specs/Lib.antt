pub mod Standing
pub mod Noting
