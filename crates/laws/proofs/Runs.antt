-- Whole runs: what they count, what they are refused for, and the steps that they take
pub mod OneOutcome
pub mod EntriesPriced
pub mod UpToBuilding
pub mod Visits
pub mod BuildingFuelLasts
pub mod FuelLasts
pub mod StepsOfRuns
pub mod StepsOfBuilding
pub mod RunRefused
pub mod StepRefusals
pub mod RunNumbers
pub mod RowsOccur
pub mod IndexOccurs
pub mod SlotOccurs
pub mod SeventeenMet
pub mod SlotMet
pub mod Lowest
