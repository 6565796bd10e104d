pub mod Printing
pub mod Decimals
pub mod Shown
pub mod Examples
