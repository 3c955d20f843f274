pub mod SmallOpening
