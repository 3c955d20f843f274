-- What a reader must believe.
pub mod RegionRecords
pub mod RegionCalls
pub mod RegionRows
pub mod RegionBytes
-- Laws: what is proved of the definitions.
pub mod RegionLaws
-- Words of private clauses and proofs.
pub mod BitChanges
pub mod SlotChanges
