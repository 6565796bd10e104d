pub mod ClassFile
pub mod Promises
pub mod Answers
