-- What is safe of a state: what the nested kernel guards can't be changed from outside it.
use Rattle.std.specs.Prelude.{◌≡◌, ◌≢◌, ℕ, ◌/◌, All, false, true, None, Ok}
use Rattle.nk_bits.specs.declared.leaf.Leaf.{Leaf}
use Rattle.nk_bits.specs.Accesses.{wp_of}
use Rattle.nk_bits.specs.Kinds.{is_storable, kind_of}
use Rattle.nk_bits.specs.Translations.{IsLive}
use Rattle.phys_mem.specs.Memory.{entry_in}
use Rattle.page_walk.specs.MemoryAccess.{view_of}
use Rattle.x86_decode.specs.declared.instruction.Decoded.TheVariants.{Whole}
use Rattle.x86_decode.specs.Decoding.{Decodes}
use Rattle.cpu_step.specs.declared.fetch.Fetched.{Fetched}
use Rattle.cpu_step.specs.declared.stepped.Stepped.TheVariants as stepped
use Rattle.cpu_step.specs.InstructionFetch.{instruction_at}
use Rattle.cpu_step.specs.Processor.{Processor, deliverable}
use Rattle.cpu_step.specs.TurnStores.{turn_stores}
use Rattle.cpu_step.specs.Turns.{enters_body}
use Rattle.gate_text.specs.GatePoints.{instruction_bytes}
use Rattle.gate_state.specs.GateWindow.{IsAtPoint}
use Rattle.gate_state.specs.MachineStates.{MachineState, Opening}
use Rattle.gate_state.specs.MachineSteps.{turn_of, waits}
use Rattle.gate_state.specs.RespectedKinds.{respects}
use Rattle.std.specs.Prelude.{length, List}

-- the supervisor stands at a gate point that isn't the body's place, and the instruction that it fetches there is the
-- one that the listing's bytes spell
pub record IsGateInstruction (p : Processor) (m : List ℕ) : Type 0 where
  pub offset : ℕ
  pub point : IsAtPoint offset p
  pub elsewhere : offset ≢ 27
  pub fetched : Fetched
  pub found : (instruction_at m (view_of m p.control p.regs.cpl) p.regs.rip p.tlb).answer ≡ Ok fetched
  pub listed : Decodes (instruction_bytes offset) (Whole fetched.instr fetched.size)

-- the processor is to take a turn: no body is to run, and it isn't halted, or an interrupt wakes it
pub record TakesTurn (p : Processor) : Type 0 where
  pub no_body : enters_body p ≡ false
  pub runs : waits p ≡ false

pub record IsSafe (o : Opening) (s : MachineState) : Type 0 where
  -- with WP clear, the next instruction is one of the gates' own
  pub gates : TakesTurn s.processor → wp_of s.processor.control.cr0 ≡ false → deliverable s.processor ≡ None
      → IsGateInstruction s.processor s.memory
  -- each live translation respects the kinds
  pub respected : (page : ℕ) (leaf : Leaf)
      → IsLive (entry_in s.memory) (length s.memory / 4096) s.processor.control.root s.processor.tlb page leaf
      → respects o s.kinds (page, leaf) ≡ true
  -- each byte that a turn stores lies in a frame of kind Data or Trap, with WP set as with WP clear
  pub stores : TakesTurn s.processor
      → All (λ store. is_storable (kind_of s.kinds (store.0 / 4096)) ≡ true) (turn_stores s.processor s.memory)
  -- with WP clear, each lies in the trap stack, frame 3
  pub window_stores : TakesTurn s.processor → wp_of s.processor.control.cr0 ≡ false
      → All (λ store. store.0 / 4096 ≡ 3) (turn_stores s.processor s.memory)
  -- no turn shuts the machine down
  pub runs : TakesTurn s.processor → (turn_of s).stepped ≢ stepped.Shutdown
