-- What a reader must believe.
pub mod RunLines
pub mod ImageLines
pub mod AuditLines
pub mod ListingLines
pub mod ClosingSection
pub mod RunSummary
-- Laws: what is proved of the definitions.
pub mod CodeListingLaws
-- Words of private clauses and proofs.
pub mod SlotLines
pub mod CodeBounds
