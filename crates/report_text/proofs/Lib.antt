pub mod Known
pub mod Texts
pub mod Digits
pub mod Hexadecimal
pub mod LineRoom
pub mod LineParts
pub mod ListedLines
pub mod TakenUp
pub mod HeldBooks
pub mod LedgerLines
mod WorkedLines
mod WorkedSections
pub mod CountedLists
pub mod ToldRecords
pub mod AuditParts
pub mod WorkedAudits
mod RefutedAudits
mod RefutedListings
pub mod FaultNames
pub mod CodeRuns
pub mod ListedCode
pub mod ListingProofs
