-- What a reader must believe.
pub mod LeastPlace
pub mod ImageCode
pub mod FirstFound
pub mod Scanned
pub mod PieceRuns
pub mod ScannedCode
-- Words of private clauses and proofs.
pub mod FoundBytes
pub mod Escapes
pub mod KeptBytes
