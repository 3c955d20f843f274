pub mod ImagePlaces
pub mod MadeBytes
pub mod MadeCode
pub mod MadeFields
pub mod MadeImages
pub mod MadeRoom
pub mod MadeRows
pub mod RefutedImages
