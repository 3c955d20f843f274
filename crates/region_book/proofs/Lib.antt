pub mod AddedBook
pub mod BitBytes
pub mod BitTests
pub mod BookBits
pub mod BookRows
pub mod ByteBits
pub mod BytePlaces
pub mod DeclaredRegions
pub mod EmptyBook
pub mod Found
pub mod FreedBook
pub mod GuardedKinds
pub mod HeldAdded
pub mod HeldMarked
pub mod HeldRemoved
pub mod KeptRows
pub mod KeptSlots
pub mod LeftSlots
pub mod ListEdits
pub mod MarkedBook
pub mod MarkedSlot
pub mod NumberedBooks
pub mod NumberedRows
pub mod OnceFrames
pub mod PageRanges
mod PlaceFound
pub mod PoolPlaces
pub mod PoolRegions
mod BuiltRegions
pub mod RefutedBooks
mod RefutedChanges
pub mod RefutedRows
mod RefutedSlots
pub mod RegionReads
pub mod RegionsKept
pub mod RemovedSlot
pub mod RowPlaces
pub mod RowReads
pub mod RowStores
pub mod RunTests
pub mod SeenStores
pub mod SlotForms
pub mod SlotFound
pub mod SlotOrder
pub mod SlotRows
pub mod SlotStores
pub mod SoundBooks
mod WorkedRegions
