-- Where references lead, and the nodes that entries become
pub mod NameTargets
pub mod Followed
pub mod JobGoals
pub mod LeadsAsFollowed
pub mod Interning
pub mod FaithfulToEntries
pub mod OwedVisits
pub mod GoalsLow
pub mod ResolvingRefusals
pub mod NodesAndChildren
pub mod ResolvedNodes
pub mod NodesApart
pub mod JobTableGood
pub mod EntryOrigins
pub mod SameConstants
pub mod OnlyReached
