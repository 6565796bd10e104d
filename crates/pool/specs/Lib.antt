pub mod Pooled
pub mod Starting
pub mod Replying
pub mod Owning
