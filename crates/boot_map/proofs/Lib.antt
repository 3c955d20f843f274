pub mod Bytes
pub mod EntryBits
pub mod EntryFormLaws
pub mod EntryKinds
pub mod EntryLaws
pub mod FillLaws
pub mod MapLaws
pub mod OpeningLaws
pub mod PlaceLaws
pub mod SlotEntries
pub mod SlotLaws
pub mod SlotLeaves
pub mod SlotNames
pub mod SlotTables
pub mod SlotUppers
pub mod WalkLaws
pub mod WalkSchema
mod WorkedValues
mod BuiltLayouts
mod RefutedLayouts
mod RefutedOpenings
mod WorkedGateTable
