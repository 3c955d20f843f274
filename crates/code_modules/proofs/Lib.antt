pub mod FilePlaces
pub mod GuardedModules
pub mod JoinSteps
pub mod JoinableParts
pub mod JoinedBytes
pub mod JoinedHeaders
pub mod JoinedPages
pub mod ListSteps
pub mod LoadedBytes
pub mod NameText
pub mod PlacedParts
pub mod PlacingSteps
mod BuiltParts
mod RefutedJoins
mod RefutedPages
mod RefutedParts
mod WorkedLists
mod WorkedNames
mod WorkedParts
