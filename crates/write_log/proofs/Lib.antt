pub mod RecordBytes
pub mod PutRecords
pub mod LogWalk
pub mod HeldLogs
pub mod AddedRecords
mod WorkedLog
pub mod StandingBytes
pub mod WorkedLogBytes
mod RefutedLogs
mod RefutedCounts
