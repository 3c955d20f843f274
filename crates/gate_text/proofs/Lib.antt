pub mod Places
pub mod Instructions
mod WorkedGates
mod RefutedGates
