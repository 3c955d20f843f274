pub mod OperationLemmas
pub mod HexDigits
pub mod NameTests
pub mod ReadNumbers
pub mod ReadPlaces
pub mod ReadTexts
pub mod SpelledTexts
pub mod WordMarks
pub mod Orders
pub mod Fronts
pub mod SamenessLaws
pub mod FrontSays
pub mod Swaps
pub mod Numbers
pub mod OperandBytes
pub mod Tails
pub mod Ranges
pub mod Skips
pub mod RowLengths
pub mod RexSkips
pub mod PlaceSkips
pub mod ModRmSkips
pub mod AddressSkips
pub mod RowIndexes
pub mod RowTests
pub mod Letters
pub mod Tried
pub mod Bests
pub mod TestedBytes
pub mod Cover
pub mod Leasts
pub mod FirstStrings
pub mod LineCodes
pub mod TextCodes
pub mod AssemblySteps
mod WorkedTexts
mod WorkedSpellings
mod WorkedCodes
mod RefutedCodes
