-- What a reader must believe.
pub mod Operations
pub mod InstructionTexts
pub mod LeastSpelling
pub mod AssembledText
-- Laws: what is proved of the definitions.
pub mod TextLaws
pub mod AssemblyLaws
-- Words of private clauses and proofs.
pub mod ParsedTexts
pub mod Sameness
pub mod Assembly
pub mod Fitting
pub mod Candidates
pub mod RowPlaces
pub mod Skipping
