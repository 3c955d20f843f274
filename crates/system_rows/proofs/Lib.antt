pub mod Compared
mod RefutedRows
