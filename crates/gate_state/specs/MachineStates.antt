-- The whole machine between two steps, and the record that the nested kernel guards in it.
use Rattle.std.specs.Prelude.{ℕ, List}
use Rattle.nk_bits.specs.declared.kind.Kind.{Kind}
use Rattle.cpu_step.specs.Processor.{Processor}
use Rattle.nk_body.specs.NestedRecord.{Ledger, Nested, nested_in}

-- what a run begins from: the file of an image, and how many frames memory has
pub record Opening : Type 0 where
  pub image : List ℕ
  pub frames : ℕ

-- processor and memory, the kind of each frame, regions and log, how many turns were taken, and how many events of the plan
pub record MachineState : Type 0 where
  pub processor : Processor
  pub memory : List ℕ
  pub kinds : List Kind
  pub ledger : Ledger
  pub turns : ℕ
  pub taken : ℕ

-- what the nested kernel guards in a state: the root is CR3's, and the handler's address is that of the handler slot
abbrev pub nested_of : MachineState → Nested
nested_of s = nested_in s.kinds s.processor.control.root s.ledger s.memory
