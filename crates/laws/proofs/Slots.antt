-- Gaps, slots and the pools that occur
pub mod Gaps
pub mod SlotRequest
pub mod PoolsThatOccur
pub mod Kept
pub mod Keeps
pub mod Exactly
pub mod SlotsToHold
