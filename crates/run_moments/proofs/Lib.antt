pub mod Ways
pub mod GoingOn
pub mod StopsPassed
pub mod StopsFound
pub mod RefutedStops
pub mod WorkedStops
