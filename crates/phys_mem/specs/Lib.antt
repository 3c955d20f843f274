-- What a reader must believe.
pub mod Memory
pub mod Runs
pub mod FrameLends
pub mod MaskedMemory
-- Laws: what is proved of the definitions.
pub mod MemoryLaws
pub mod MaskLaws
-- Words of private clauses and proofs.
pub mod Ownership
pub mod CellsLends
pub mod BlockLends
