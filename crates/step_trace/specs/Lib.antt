-- What a reader must believe.
pub mod AddressesRan
pub mod StepChanges
pub mod StepLines
pub mod StepTexts
pub mod TraceFaults
pub mod Traces
pub mod TracesPut
-- Words of private clauses and proofs.
pub mod CodePlaces
pub mod CopiesOfMemory
pub mod PassedSteps
pub mod RanSteps
pub mod RestsOfTraces
pub mod StepsLeft
pub mod ToldSteps
pub mod Writable
