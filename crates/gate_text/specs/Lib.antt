-- What a reader must believe.
pub mod Listing
pub mod GatePoints
-- Laws: what is proved of the definitions.
pub mod ListingLaws
