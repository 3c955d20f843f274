pub mod Passed
pub mod MovedOut
pub mod Places
pub mod InReads
pub mod HeldBytes
pub mod RefutedShelves
mod RefutedCounts
pub mod RefutedPuts
mod BuiltPuts
pub mod RefutedTakes
mod BuiltTakes
