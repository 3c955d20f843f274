-- What a reader must believe.
pub mod Moments
pub mod Stops
-- Words of private clauses and proofs.
pub mod AdvancedMoments
pub mod StopsMet
