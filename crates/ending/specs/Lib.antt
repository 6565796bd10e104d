pub mod Ended
pub mod Naming
