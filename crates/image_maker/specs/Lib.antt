-- What a reader must believe.
pub mod MadeImage
-- Words of private clauses and proofs.
pub mod MadeWords
