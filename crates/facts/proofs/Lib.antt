pub mod Lists
pub mod Tables
pub mod Each
pub mod Chunks
pub mod Copies
pub mod Sums
pub mod Results
pub mod Outcomes
