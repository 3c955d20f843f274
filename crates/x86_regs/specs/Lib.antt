-- What a reader must believe.
pub mod Registers
pub mod Operands
pub mod Combinations
pub mod OperationForms
pub mod OperandPlans
pub mod OperandOutcomes
pub mod Effects
pub mod EffectsKept
pub mod AlikeMemories
-- Laws: what is proved of the definitions.
pub mod EffectLaws
pub mod AlikeLaws
