-- What a reader must believe.
pub mod QuickForms
pub mod StatusFlags
-- Words of private clauses and proofs.
pub mod QuickParts
pub mod TurnsByForm
