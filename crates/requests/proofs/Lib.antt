pub mod Settling
pub mod Starting
pub mod Handing
pub mod Waiting
pub mod Answers
pub mod Words
