-- What a reader must believe.
pub mod Division
pub mod Parts
pub mod OpeningKinds
pub mod OpeningEntries
pub mod Opening
pub mod KernelSlot
-- Laws: what is proved of the definitions.
pub mod OpeningLaws
pub mod SlotLaws
