-- What a reader must believe.
pub mod MachineStates
pub mod MachineOpening
pub mod SourceBytes
pub mod MachineSteps
pub mod GateWindow
pub mod RespectedKinds
pub mod SafeStates
pub mod AnyVector
pub mod ShownSteps
pub mod GuardedStates
pub mod StepsTaken
pub mod WholeMachine
pub mod StepsTouched
pub mod GateCalls
pub mod QuietSteps
pub mod WindowLeft
pub mod MachineOf
-- Laws: what is proved of the definitions.
pub mod HighestPendingLaws
-- Words of private clauses and proofs.
pub mod EventMoves
