pub mod Kids
pub mod Defining
pub mod Ending
pub mod Begun
