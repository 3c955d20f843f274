-- What a reader must believe.
pub mod ProcessList
-- Laws: what is proved of the definitions.
pub mod ProcessLaws
-- Words of private clauses and proofs.
pub mod FollowedChain
