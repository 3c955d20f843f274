pub mod LawfulValues
mod WorkedRules
mod RefutedRules
