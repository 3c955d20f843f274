pub mod Forms
pub mod Numerals
mod WorkedWords
mod RefutedBounds
