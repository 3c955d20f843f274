pub mod LowerLaws
pub mod Scene
pub mod SourceReads
mod SourceRuns
pub mod SourceWants
pub mod SceneProofsRespects
pub mod SceneProofsUppers
pub mod SceneProofsWalks
pub mod SceneProofsStores
pub mod SceneProofsAccesses
pub mod SceneProofs
pub mod DeliveryGates
pub mod DeliveryReads
pub mod DeliveryPushes
pub mod Delivery
pub mod FetchSteps
pub mod GateTextBytes
pub mod FetchBytes
pub mod FetchFormed
pub mod FetchKnown
pub mod GateTextPoints
pub mod FetchListed
pub mod ListedInstructions
pub mod PendingOrder
mod RefutedPending
pub mod FetchEncodings
pub mod GateTextLoads
pub mod FetchProtected
pub mod ControlWord
pub mod WindowRows
pub mod WindowEffects
pub mod WindowPoints
pub mod WindowNearer
pub mod WindowKept
pub mod WindowSteps
pub mod WindowPushes
pub mod Window
pub mod TurnFacts
pub mod Ready
pub mod RegisterBounds
pub mod Traps
pub mod Acts
pub mod Writes
pub mod Instructions
pub mod TurnKept
pub mod StatesKept
pub mod RefutedStates
pub mod Assembly
pub mod LooseLeaves
pub mod BodyKept
pub mod StatesOf
pub mod TurnNearer
pub mod RefutedLeaves
pub mod OpeningBytes
pub mod OpeningGuarded
pub mod RunsSafe
pub mod CallComesBack
pub mod RunsShort
pub mod ShownStates
pub mod MoveLemmas
pub mod StepLemmas
pub mod ShownTouched
pub mod TurnsSeen
pub mod WritesTouched
pub mod WholeLemmas
mod CallsTouched
pub mod QuietTurns
pub mod OpeningWhole
pub mod CallThroughRows
pub mod CallThroughEffects
pub mod CallThroughWords
pub mod CallThroughTurn
pub mod CallThroughStages
pub mod CallThroughArrivals
pub mod CallThroughGoing
pub mod CallThroughBody
pub mod CallThroughBack
pub mod CallThroughMoves
pub mod CallThrough
mod WorkedOpening
mod RefutedRecords
mod RefutedRuns
mod BookFrames
mod MaskedTables
mod MaskedScenes
mod MaskedDeliveries
mod MaskedTurns
mod MaskedSources
mod MaskedStates
mod PortWrites
mod ShownTouches
mod TrappedStores
mod MaskedTouches
mod TurnTouches
mod RefutedGuards
mod RefutedCalls
mod BuiltCalls
mod RefutedShutdowns
mod RefutedStandings
mod RefutedPlaces
mod RefutedReturns
mod RefutedShown
mod RefutedSteps
mod RefutedLeft
mod RefutedTouched
