-- What is seen of memory at a moment, as the addresses of a debugger name it. Nothing that the processor keeps changes.
use Rattle.std.specs.Prelude.{ℕ, zero, suc, ◌+◌, ◌/◌, ◌%◌, ◌^◌, ◌==◌, nat_lt, if◌then◌else◌, List, [], ◌∷◌, length, Option, Some, None, Result, Ok, Err}
use Rattle.nk_bits.specs.declared.fault.AccessFault.{AccessFault}
use Rattle.nk_bits.specs.Paging.{is_canonical}
use Rattle.phys_mem.specs.Memory.{byte_at}
use Rattle.page_walk.specs.MemoryAccess.{loaded, view_of}
use Rattle.gate_state.specs.MachineStates.{MachineState}
use Rattle.memory_sights.specs.declared.sight.Sight.{Sight}
use Rattle.memory_sights.specs.declared.sight.Sight.TheVariants.{Linear, Physical, Nowhere}

-- 48 bits as a canonical address
abbrev pub canonical_from : ℕ → ℕ
canonical_from low = if nat_lt low (2 ^ 47) then low else low + 0xFFFF000000000000

-- by the highest 16 bits of an address that isn't canonical: a place in memory, or a linear address as the user sees it
abbrev pub sight_by : ℕ → ℕ → Sight
sight_by high low =
    if high == 0x0100 then Physical low
    else if high == 0x0200 then Linear 3 (canonical_from low)
    else Nowhere

-- what an address of 64 bits names: a linear address as the supervisor sees it, or by its highest bits
unfoldable pub sight_of : ℕ → Sight
sight_of address =
    if is_canonical address then Linear 0 address else sight_by (address / 2 ^ 48) (address % 2 ^ 48)

-- the byte that a load would read, if it faults nowhere
abbrev pub read_by : Result ℕ AccessFault → Option ℕ
read_by (Ok byte) = Some byte
read_by (Err fault) = None

-- the byte at a place, if memory has it; and at a linear address the one that a load at this CPL would read now
abbrev pub byte_named : MachineState → Sight → Option ℕ
byte_named s (Physical place) = if nat_lt place (length s.memory) then Some (byte_at s.memory place) else None
byte_named s (Linear cpl va) =
    read_by (loaded s.memory (view_of s.memory s.processor.control cpl) s.processor.tlb va 1).answer
byte_named s Nowhere = None

unfoldable pub byte_seen : MachineState → ℕ → Option ℕ
byte_seen s address =
    if nat_lt address (2 ^ 64) then byte_named s (sight_of address) else None

-- the bytes from an address on, at most so many, as far as each is seen
abbrev pub seen_on : Option ℕ → List ℕ → List ℕ
seen_on None later = []
seen_on (Some byte) later = byte ∷ later

unfoldable pub bytes_seen : MachineState → ℕ → ℕ → List ℕ
bytes_seen s address zero = []
bytes_seen s address (suc n) = seen_on (byte_seen s address) (bytes_seen s (address + 1) n)
