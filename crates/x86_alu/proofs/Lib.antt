pub mod FlagBits
pub mod Turns
pub mod FirstSet
mod WorkedNumbers
mod WorkedShifts
mod RefutedScans
