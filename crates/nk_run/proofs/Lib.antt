pub mod Checks
pub mod Told
pub mod Rows
pub mod RunRows
pub mod AuditRows
pub mod TextRows
pub mod ModuleFetches
pub mod Promises
pub mod RunsBegun
pub mod ScanRows
pub mod Runs
pub mod RunEnds
pub mod JournalOutcomes
pub mod SafeRuns
pub mod AdmittedImages
pub mod WorkBounds
pub mod JoinRows
pub mod StepTexts
pub mod StepEnds
pub mod Texts
pub mod OpeningMemory
pub mod CountedRuns
pub mod QuietRuns
pub mod Splits
pub mod Glyphs
pub mod SpelledNumbers
pub mod HeardLines
pub mod ReplaySteps
pub mod ToldSections
pub mod RunSteps
pub mod Journals
pub mod JournalOpening
pub mod CodeKept
pub mod RunsReplayed
mod WorkedLines
mod WorkedAudits
mod RefutedPromises
mod RefutedReplays
mod RefutedOutcomes
mod BuiltPremises
mod RefutedFiles
mod BuiltLimits
mod RefutedBeginnings
