pub mod Names
pub mod Leading
