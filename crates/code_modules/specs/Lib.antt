-- What a reader must believe.
pub mod ModuleList
pub mod JoinedParts
pub mod JoinedFile
pub mod JoinAnswers
pub mod JoinedImage
-- Words of private clauses and proofs.
pub mod ListReading
pub mod PartWords
pub mod FormWords
