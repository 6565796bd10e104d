pub mod Answers
pub mod Forms
