-- What the definitions in turn leave
pub mod RawSlotsRise
pub mod DefinedAsPlaced
pub mod DefinitionRefusals
pub mod RecordsOfEntries
