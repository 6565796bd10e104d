pub mod Store
pub mod Chains
pub mod JobIn
pub mod Regions
pub mod Words
pub mod Entries
pub mod Small
