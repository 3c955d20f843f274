pub mod WatchesLeft
mod RefutedStandings
