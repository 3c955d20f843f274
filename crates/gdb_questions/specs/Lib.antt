-- What a reader must believe.
pub mod Words
pub mod Orders
pub mod Questions
-- Words of private clauses and proofs.
pub mod Pairs
pub mod QuestionEnds
