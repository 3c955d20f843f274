-- What a reader must believe.
pub mod Lines
pub mod Witness
pub mod RunStates
pub mod ReplayedRuns
pub mod WorkSummary
pub mod Outcome
pub mod JournalLaw
pub mod JoinedRuns
pub mod Clauses
pub mod RunsBegun
-- Words of private clauses and proofs.
pub mod Statuses
pub mod RunProgress
pub mod ReplyText
pub mod Replies
pub mod ScanReplies
