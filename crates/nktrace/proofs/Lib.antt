pub mod Rises
mod RefutedTraces
