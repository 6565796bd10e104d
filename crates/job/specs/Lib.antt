pub mod Forms
pub mod Stored
