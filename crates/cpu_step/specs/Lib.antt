-- What a reader must believe.
pub mod Processor
pub mod QuickTurns
pub mod InstructionFetch
pub mod Turns
pub mod TurnStores
pub mod FramesTouched
pub mod EventsTaken
pub mod TranslationsLent
-- Laws: what is proved of the definitions.
pub mod TurnLaws
-- Words of private clauses and proofs.
pub mod DecodingMemo
pub mod KeptFetches
pub mod CodeLines
