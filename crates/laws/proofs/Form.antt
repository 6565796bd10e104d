-- What the form pass reads and lets through
pub mod RefusalNumbers
pub mod EntryShapes
pub mod ParsersYield
pub mod DefinitionsRead
pub mod HighestSlots
pub mod EmptyLiterals
pub mod WorkedOut
pub mod FormedEntries
pub mod FormedJobs
pub mod CitedEntries
pub mod RawNumbersLow
pub mod FormRefusals
pub mod FormFuelLasts
