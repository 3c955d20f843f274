-- What a reader must believe.
pub mod NestedRecord
pub mod Calls
pub mod CallRules
pub mod BooksTouched
pub mod CallLeft
pub mod KindsKept
pub mod SourceWords
pub mod ReplayBeside
-- Laws: what is proved of the definitions.
pub mod CallLaws
pub mod BookLaws
-- Words of private clauses and proofs.
pub mod CallMade
