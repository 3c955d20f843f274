-- Words of private clauses and proofs.
pub mod SlotBuckets
pub mod SlotOrder
pub mod TranslationTable
