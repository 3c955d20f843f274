-- What a reader must believe.
pub mod ShelfChanges
pub mod HeldFile
pub mod GoodImages
pub mod ScanStops
-- Words of private clauses and proofs.
pub mod WalkedPieces
