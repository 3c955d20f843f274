-- What a reader must believe.
pub mod JournalLines
pub mod ReplayedCalls
pub mod GrantedCalls
-- Laws: what is proved of the definitions.
pub mod GrantedLaws
-- Words of private clauses and proofs.
pub mod HeardLines
pub mod ReplaySteps
