pub mod FieldLaws
pub mod BoundLaws
pub mod Bytes
pub mod Maps
pub mod Slots
pub mod Operands
pub mod Rows
pub mod Examples
pub mod RowReading
pub mod RowFinding
pub mod Reading
pub mod Finding
pub mod Law
pub mod Forms
pub mod Answers
pub mod RowPlaces
mod RefutedSpellings
