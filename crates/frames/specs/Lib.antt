pub mod Line
pub mod Stream
