pub mod Raws
pub mod Indexes
