pub mod Numbers
pub mod Built
pub mod Working
