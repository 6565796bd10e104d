pub mod Listing
pub mod Views
pub mod Opening
pub mod Lists
pub mod Promises
