-- The block file, read and written
pub mod ReadingTests
pub mod OneBlock
pub mod BlocksOfParts
pub mod PartsOfFile
pub mod PartsOfJob
pub mod PartsWritten
pub mod BlocksBack
pub mod BlocksWritten
pub mod BlocksRead
pub mod OneFile
pub mod BlocksRefused
