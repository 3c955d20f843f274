-- What a reader must believe.
pub mod WalkAnswers
pub mod MemoryAccess
pub mod AccessPlans
