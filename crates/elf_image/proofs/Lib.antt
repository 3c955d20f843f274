pub mod FormLaws
pub mod Pairs
pub mod Ranges
pub mod SegmentLaws
pub mod TableOrder
pub mod PageLaws
pub mod PartLaws
pub mod ImageLaws
pub mod SegmentRows
pub mod WrittenFields
mod RefutedPages
