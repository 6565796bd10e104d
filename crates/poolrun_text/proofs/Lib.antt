pub mod Putting
pub mod Texts
pub mod Reading
pub mod Running
