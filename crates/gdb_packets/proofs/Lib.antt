pub mod Hearings
pub mod Sent
pub mod SentBack
pub mod WorkedPackets
pub mod RefutedPackets
mod BuiltPacketLaws
mod RefutedSendings
