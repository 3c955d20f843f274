pub mod NearerSteps
pub mod FirstStates
pub mod TakenTexts
pub mod TraceRests
mod AddressesNoted
pub mod HexadecimalFour
pub mod TextsBehind
pub mod ChangeTexts
pub mod StateTexts
pub mod SpanStarts
mod ToldPlaces
pub mod ChangedRuns
pub mod SameFrames
pub mod ToldMemory
mod TwoFrames
mod StepParts
mod KeptParts
mod ToldChanges
mod WantedLines
pub mod OpeningTexts
pub mod WhatSteps
pub mod LineTexts
mod WorkedChanges
mod WorkedTexts
mod RefutedChanges
mod RefutedTraces
pub mod PassedTurns
pub mod PassedRests
