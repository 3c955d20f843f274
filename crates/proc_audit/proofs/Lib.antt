pub mod NumberTests
pub mod ChainLinks
pub mod ChainLaws
pub mod ChainSteps
pub mod WorkedProcesses
mod RefutedProcesses
mod RefutedLaws
