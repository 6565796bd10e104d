pub mod Pool
pub mod Written
