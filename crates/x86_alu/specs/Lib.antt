-- What a reader must believe.
pub mod SignedNumbers
pub mod Flags
pub mod Sums
pub mod Bitwise
pub mod Shifts
pub mod Products
pub mod Quotients
pub mod Scans
-- Laws: what is proved of the definitions.
pub mod FlagLaws
