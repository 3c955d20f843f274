-- What a reader must believe.
pub mod Sights
-- Words of private clauses and proofs.
pub mod SightsSought
