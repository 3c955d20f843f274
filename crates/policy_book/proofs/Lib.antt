mod FoundRegions
mod OtherBooks
mod Writes
mod WorkedPolicies
