-- Where the code from an address on stands in memory, looked at over what a processor keeps now.
use Rattle.std.specs.Prelude.{ℕ, if◌then◌else◌, List, Option, Some, None, Result, Ok, Err}
use Rattle.nk_bits.specs.declared.access.Access.TheVariants.{Fetch}
use Rattle.nk_bits.specs.declared.fault.AccessFault.{AccessFault}
use Rattle.nk_bits.specs.declared.leaf.Leaf.{Leaf}
use Rattle.nk_bits.specs.declared.leaf.Target.{Target}
use Rattle.nk_bits.specs.AccessRights.{may}
use Rattle.nk_bits.specs.Accesses.{View, accessed, place_in}
use Rattle.page_walk.specs.MemoryAccess.{view_of}
use Rattle.cpu_step.specs.Processor.{Processor}
use Rattle.step_trace.specs.StepLines.{bytes_fetched}

-- the place that an access found, if it found one
abbrev pub place_judged : Result Target AccessFault → Option ℕ
place_judged (Ok target) = Some target.first
place_judged (Err fault) = None

-- the place of the byte at an address, if it can be fetched
unfoldable pub code_place : Processor → List ℕ → ℕ → Option ℕ
code_place p m va = place_judged (accessed (view_of m p.control p.regs.cpl) Fetch p.tlb va 1).answer

-- the place of the byte at an address whose page has this translation, if it serves a fetch
abbrev pub place_for : View → ℕ → Option Leaf → Option ℕ
place_for view va None = None
place_for view va (Some leaf) = if may Fetch leaf.rights view.cpl view.wp view.smep then Some (place_in leaf va) else None

-- the bytes from an address on that can be fetched, at most so many
unfoldable pub bytes_judged : Processor → List ℕ → ℕ → ℕ → List ℕ
bytes_judged p m at n = bytes_fetched m (view_of m p.control p.regs.cpl) p.tlb at n
