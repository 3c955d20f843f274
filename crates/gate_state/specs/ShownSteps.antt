-- What steps and calls show: numbers of 64 bits, and bytes. The text of a run reads back no others.
use Rattle.std.specs.Prelude.{◌≡◌, ℕ, ◌^◌, ◌<◌, ◌≤◌, ◌==◌, ⊤, if◌then◌else◌, None, Some, IfSome, All}
use Rattle.nk_bits.specs.declared.call.Delivery.{Delivery}
use Rattle.nk_body.specs.CallRules.{bytes_read}
use Rattle.gate_state.specs.declared.seen.Seen.{Seen}
use Rattle.gate_state.specs.declared.seen.Seen.TheVariants as seen
use Rattle.gate_state.specs.MachineStates.{MachineState}
use Rattle.gate_state.specs.MachineSteps.{answer_in, call_in, source_of}

-- a delivery is that of one of the 48 vectors, its numbers have 64 bits, and it shows CR2 for vector 14 alone
pub record IsShownDelivery (it : Delivery) : Type 0 where
  pub vector : it.vector ≤ 47
  pub code : IfSome it.code (λ code. code < 2 ^ 64)
  pub rip : it.rip < 2 ^ 64
  pub cr2 : (c : ℕ) × (c < 2 ^ 64) × (it.cr2 ≡ (if it.vector == 14 then Some c else None))

-- what a step shows that isn't the nested kernel's is a byte for the console, or such a delivery
abbrev pub IsShown : Seen → Type 0
IsShown (seen.Console byte) = byte < 256
IsShown (seen.Delivered it) = IsShownDelivery it
IsShown _ = ⊤

-- the words of the call that the registers hold, its answer and a place in that have 64 bits, and what it reads are
-- bytes
pub record IsShownCall (s : MachineState) : Type 0 where
  pub number : (call_in s.processor.regs).number < 2 ^ 64
  pub a : (call_in s.processor.regs).a < 2 ^ 64
  pub b : (call_in s.processor.regs).b < 2 ^ 64
  pub c : (call_in s.processor.regs).c < 2 ^ 64
  pub d : (call_in s.processor.regs).d < 2 ^ 64
  pub source : All (λ b. b < 256) (bytes_read (source_of s))
  pub value : (answer_in s).value < 2 ^ 64
  pub place : IfSome (answer_in s).place (λ p. p < 2 ^ 64)
