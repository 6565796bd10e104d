-- Constants worked out in the job
pub mod Wraps
pub mod Rounding
pub mod Local
pub mod Sizes
pub mod Folded
