-- What a reader must believe.
pub mod Home
pub mod Elf
pub mod Segments
pub mod Rows
pub mod ImageFaults
pub mod Pages
pub mod FileParts
pub mod SegmentForm
pub mod WrittenHeaders
-- Computations that a law says are right.
pub mod HeaderRows
pub mod SegmentPages
-- Words of private clauses and proofs.
pub mod Loaded
pub mod FieldWords
