-- The state over which effects are worked out: sixteen registers of which seven are told, seven words of memory,
-- and one page kept that maps them at 2000 (hexadecimal). An instruction has three bytes and stands at 1000, so
-- that the next one is at 1003.
use Rattle.std.specs.Prelude.{ℕ, ◌+◌, true, false, List, [], ◌∷◌, Option, Some, None, Result, Ok}
use Rattle.decode_fields.specs.declared.place.Place.{Place}
use Rattle.decode_fields.specs.declared.place.Place.TheVariants as place
use Rattle.decode_fields.specs.declared.parts.Rep.TheVariants.{No}
use Rattle.x86_decode.specs.declared.instruction.Instr.{Instr}
use Rattle.x86_decode.specs.declared.operation.Op.{Op}
use Rattle.nk_bits.specs.declared.control.Control.{Control}
use Rattle.nk_bits.specs.Translations.{Translations}
use Rattle.x86_regs.specs.declared.registers.Regs.{Regs}
use Rattle.x86_regs.specs.declared.effects.Act.{Act}
use Rattle.x86_regs.specs.declared.effects.Act.TheVariants as act
use Rattle.x86_regs.specs.declared.effects.Effect.{Effect}
use Rattle.x86_regs.specs.declared.effects.Write.{Write}
use Rattle.x86_regs.specs.declared.faults.Fault.{Fault}
use Rattle.x86_regs.specs.Effects.{effect_of}

-- RAX, RCX, RDX, RSP, RBP, RSI and RDI; RBX holds 3, and R8 to R15 hold their numbers
abbrev pub general : ℕ → ℕ → ℕ → ℕ → ℕ → ℕ → ℕ → List ℕ
general a c d sp bp si di = a ∷ c ∷ d ∷ 3 ∷ sp ∷ bp ∷ si ∷ di ∷ 8 ∷ 9 ∷ 10 ∷ 11 ∷ 12 ∷ 13 ∷ 14 ∷ 15 ∷ []

-- RAX, RCX and RDX, with RSP, RBP and RDI at the second word and RSI at the first
abbrev pub three : ℕ → ℕ → ℕ → List ℕ
three a c d = general a c d 0x2008 0x2008 0x2000 0x2008

abbrev pub regs_at : ℕ → List ℕ → ℕ → ℕ → Regs
regs_at rip general flags cpl = record { general = general; rip = rip; flags = flags; cpl = cpl; ss = 16 }

-- WP, PG and PE, a root of 5, PAE
abbrev pub control : Control
control = record { cr0 = 0x80010001; cr2 = 0x77; root = 5; cr4 = 0x20; efer = 0 }

-- seven words: 0706050403020100, 1716151413121110, and 2000, 1B, FFFFFF, 3000, 23, which IRETQ may pop
abbrev pub memory : List ℕ
memory =
    0x00 ∷ 0x01 ∷ 0x02 ∷ 0x03 ∷ 0x04 ∷ 0x05 ∷ 0x06 ∷ 0x07 ∷ 0x10 ∷ 0x11 ∷ 0x12 ∷ 0x13 ∷ 0x14 ∷ 0x15 ∷ 0x16 ∷ 0x17 ∷
    0x00 ∷ 0x20 ∷ 0x00 ∷ 0x00 ∷ 0x00 ∷ 0x00 ∷ 0x00 ∷ 0x00 ∷ 0x1B ∷ 0x00 ∷ 0x00 ∷ 0x00 ∷ 0x00 ∷ 0x00 ∷ 0x00 ∷ 0x00 ∷
    0xFF ∷ 0xFF ∷ 0xFF ∷ 0x00 ∷ 0x00 ∷ 0x00 ∷ 0x00 ∷ 0x00 ∷ 0x00 ∷ 0x30 ∷ 0x00 ∷ 0x00 ∷ 0x00 ∷ 0x00 ∷ 0x00 ∷ 0x00 ∷
    0x23 ∷ 0x00 ∷ 0x00 ∷ 0x00 ∷ 0x00 ∷ 0x00 ∷ 0x00 ∷ 0x00 ∷ []

abbrev pub kept : Translations
kept = record { pairs = (2, record { frame = 0; rights = record { can_write = true; user = true; exec = false } }) ∷ []; upper = [] }

-- an instruction that is neither repeated nor locked, with its width, its operands and its number
abbrev pub instr : Op → ℕ → Place → Place → ℕ → Instr
instr op width to from value = record { op = op; width = width; to = to; from = from; value = value; rep = No; lock = false }

-- the effect or the fault of an instruction at 1000, at this CPL, with these general registers and flags
abbrev pub effect_at : ℕ → Instr → List ℕ → ℕ → Result Effect Fault
effect_at cpl i general flags = (effect_of i 3 (regs_at 0x1000 general flags cpl) control memory kept).answer

abbrev pub effect : Instr → List ℕ → ℕ → Result Effect Fault
effect i general flags = effect_at 0 i general flags

-- it goes on at this address with these general registers and flags, with this write and this act, at CPL 0
abbrev pub going : ℕ → List ℕ → ℕ → Option Write → Act → Result Effect Fault
going rip general flags write act = Ok (record { regs = regs_at rip general flags 0; write = write; act = act })

-- so many bytes of a value at 2000 and an offset, in frame 0
abbrev pub bytes_at : ℕ → ℕ → ℕ → Option Write
bytes_at offset width value = Some (record { va = 0x2000 + offset; width = width; value = value; target = record { first = offset; second = 0 } })

-- it goes on behind itself, and neither writes nor asks for anything; or it writes, or it asks
abbrev pub quiet : List ℕ → ℕ → Result Effect Fault
quiet general flags = going 0x1003 general flags None act.Quiet

abbrev pub writing : List ℕ → ℕ → ℕ → ℕ → ℕ → Result Effect Fault
writing general flags offset width value = going 0x1003 general flags (bytes_at offset width value) act.Quiet

abbrev pub asking : List ℕ → ℕ → Act → Result Effect Fault
asking general flags act = going 0x1003 general flags None act

-- the place at a register and a displacement
abbrev pub at : ℕ → ℕ → Place
at base disp = place.Mem (record { base = Some base; index = None; scale = 1; disp = disp; rip = false })
