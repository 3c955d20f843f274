mod SightsFound
mod SightsLeft
mod WorkedSights
