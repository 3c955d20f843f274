pub mod NumberLemmas
pub mod PrefixLaws
pub mod FieldLaws
pub mod ProtectedLaws
mod WorkedFields
mod WorkedOperands
mod WorkedProtected
mod RefutedFields
