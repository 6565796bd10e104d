-- Literals as numbers
pub mod Numbering
pub mod AlikeJobs
pub mod RunsLaidOut
pub mod NumberedCited
pub mod NumberedLow
