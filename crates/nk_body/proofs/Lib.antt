pub mod LowerLaws
pub mod HandlerStores
pub mod CallsMade
pub mod RegionFrames
pub mod HeldBytes
pub mod SoundBooks
pub mod RegionRules
pub mod GuardedFrames
pub mod KeptLedgers
pub mod RegionStores
pub mod HeldBooks
pub mod RegionsHeld
pub mod BooksLeft
pub mod RegionsMade
pub mod GuardedStays
pub mod PagesMade
pub mod StoresKept
pub mod OpeningSound
pub mod OpeningBooks
pub mod TableChanges
pub mod CallFacts
pub mod NumbersLeft
pub mod CallChanges
pub mod CallRecords
pub mod CallAnswers
pub mod WideCalls
pub mod ServedCalls
pub mod HeldPuts
pub mod RegionPlaces
pub mod BesideTables
pub mod BesideRegions
pub mod BesidePages
pub mod CallsBeside
pub mod OpeningBeside
mod RefutedCalls
mod RefutedLedgers
mod RefutedHeldBooks
