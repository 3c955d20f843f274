-- What a reader must believe.
pub mod PlannedEvents
pub mod PlanFile
-- Words of private clauses and proofs.
pub mod PlanReading
