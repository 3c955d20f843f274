pub mod LineSizes
pub mod SeenSizes
pub mod Replaying
pub mod SourceLemmas
pub mod WantedBytes
pub mod LedgerMoves
pub mod GrantedSizes
pub mod GrantedLines
pub mod GrantSearch
mod WorkedLines
mod WorkedReplays
mod WorkedGrants
mod RefutedLines
mod RefutedJournals
mod RefutedGrants
