-- What a reader must believe.
pub mod TextLines
pub mod Numerals
-- Words of private clauses and proofs.
pub mod Cuts
