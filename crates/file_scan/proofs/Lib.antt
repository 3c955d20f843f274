pub mod HeldFiles
pub mod HeaderPieces
pub mod PageReads
mod RefutedScans
mod BuiltScans
