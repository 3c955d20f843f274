pub mod CountBounds
pub mod CountingSteps
pub mod CountLaws
pub mod Counts
pub mod CountsWhere
pub mod DescriptorLaws
pub mod DescriptorsKept
pub mod DescriptorValues
pub mod FieldPasses
pub mod FieldStores
pub mod GuardedFrames
pub mod KindChanges
pub mod KindsKept
pub mod LawfulForms
pub mod MemoryCounts
pub mod MemoryTables
pub mod NewTables
pub mod PageTableStores
pub mod PageTableValues
pub mod RecordWalk
mod RefutedDescriptors
mod RefutedCounts
mod RefutedEntries
mod RefutedLaws
mod RefutedTables
pub mod ReplacedCounts
pub mod SeenTables
pub mod SlotLeafTables
pub mod SoundWalk
pub mod SoundWhere
pub mod StartedDescriptors
pub mod Sums
pub mod TableDescriptors
pub mod TablesKept
mod WorkedDescriptors
mod WorkedTables
