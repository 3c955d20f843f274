pub mod ProtectedLemmas
pub mod EscapePlaces
pub mod KeptLemmas
pub mod SeamLemmas
pub mod JoinedRuns
pub mod PageBytes
pub mod AllCode
pub mod ScannedRuns
pub mod WalkedPages
mod WorkedScans
mod RefutedScans
