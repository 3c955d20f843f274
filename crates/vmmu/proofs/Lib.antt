pub mod LowerLaws
pub mod ChangedFrames
pub mod SeenStores
pub mod CallFacts
pub mod DeclaredTables
pub mod WrittenEntries
pub mod RemovedTables
pub mod CarriedRules
pub mod CarriedCounts
pub mod HeldTables
mod WorkedCalls
mod RefutedCalls
