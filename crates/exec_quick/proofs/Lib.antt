mod Arms
mod Cuts
mod FlagBits
mod FlagWords
mod RefutedForms
mod WorkedForms
mod WorkedKinds
