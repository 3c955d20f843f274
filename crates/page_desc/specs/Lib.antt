-- What a reader must believe.
pub mod FrameCounts
pub mod FrameDescriptors
pub mod SoundTables
pub mod PageTables
pub mod DescriptorBytes
-- Laws: what is proved of the definitions.
pub mod CountLaws
pub mod SoundLaws
pub mod PageTableLaws
pub mod StoredLaws
-- Words of private clauses and proofs.
pub mod FieldChanges
