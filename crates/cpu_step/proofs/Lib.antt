mod AlikeFetches
mod CodePages
mod CodeRuns
pub mod FetchFaults
mod KeptBytes
mod LentPages
mod LineForms
mod LineTurns
pub mod LongerCode
pub mod PageFetches
pub mod PendingVectors
mod QuickTurnLemmas
mod RefutedStretches
pub mod StoresOfTurns
mod TouchedFrames
pub mod TurnLemmas
mod WorkedLines
mod WorkedStretches
mod WorkedTurns
pub mod WordBytes
