-- What a reader must believe.
pub mod RowForms
pub mod OpcodeTable
pub mod Conditions
pub mod Meaning
pub mod Spelling
pub mod Decoding
pub mod WellFormed
-- Computations that a law says are right.
pub mod Reader
pub mod Grid
pub mod RowList
-- Laws: what is proved of the definitions.
pub mod SpellingLaws
pub mod RowListLaws
