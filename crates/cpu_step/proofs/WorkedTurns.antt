-- What turns store at worked values, through the whole definition: SDM volume 2, PUSH, INT3 and UD2. Memory is sixteen
-- words, of which the first two are a gate, the third is code, and the seventh is IST1; the page FFFFFF8000000000 is kept,
-- and is frame 0.
use Rattle.std.proofs.Common.{◌≡◌, ℕ, zero, suc, ◌/◌, ◌%◌, ◌++◌, true, false, List, [], ◌∷◌, refl}
use Rattle.nk_bits.specs.Accesses.{accessed, completed, crosses, first_part, has_canonical_bytes, reached, smep_of, wp_of}
use Rattle.phys_mem.specs.Memory.{number_at, stored, stores}
use Rattle.trap_unit.specs.DeliveryStores.{delivery_stores, push_stores}
use Rattle.trap_unit.specs.TrapDelivery.{entry_found, gate_read, interrupt_allowed, pushed}
use Rattle.x86_decode.specs.Grid.{entry_at, slots_from}
use Rattle.x86_regs.specs.Effects.{effect_of}
use Rattle.page_walk.specs.AccessPlans.{gathered}
use Rattle.cpu_step.specs.InstructionFetch.{instruction_at}
use Rattle.cpu_step.specs.Processor.{Processor}
use Rattle.cpu_step.specs.TurnStores.{instruction_stores, turn_stores}

-- the bytes of 64-bit words, least significant first
abbrev bytes_of : ℕ → ℕ → List ℕ
bytes_of zero word = []
bytes_of (suc n) word = (word % 256) ∷ bytes_of n (word / 256)

abbrev words : List ℕ → List ℕ
words [] = []
words (word ∷ rest) = bytes_of 8 word ++ words rest

-- memory with this code
abbrev memory : ℕ → List ℕ
memory code = words (0x00008E0100081040 ∷ 0xFFFFFF80 ∷ code ∷ 0 ∷ 0 ∷ 0 ∷ 0xFFFFFF8000000080 ∷ 0 ∷ 0 ∷ 0 ∷ 0 ∷ 0 ∷ 0 ∷ 0 ∷ 0 ∷ 0 ∷ [])

-- the supervisor at the code, whose table has this address
abbrev supervisor : ℕ → Processor
supervisor idt = record {
  regs = record {
    general = 0 ∷ 1 ∷ 2 ∷ 3 ∷ 0xFFFFFF8000000060 ∷ 5 ∷ 6 ∷ 7 ∷ 8 ∷ 9 ∷ 10 ∷ 11 ∷ 12 ∷ 13 ∷ 14 ∷ 15 ∷ [];
    rip = 0xFFFFFF8000000010;
    flags = 2;
    cpl = 0;
    ss = 0x10;
  };
  control = record { cr0 = 0x80010001; cr2 = 0; root = 5; cr4 = 0x100020; efer = 0xD00 };
  tables = record { idt = idt; limit = 767; tss = 0xFFFFFF800000000C };
  tlb = record { pairs = (0xFFFFFF8000000, record { frame = 0; rights = record { can_write = true; user = false; exec = true } }) ∷ []; upper = [] };
  input = [];
  pending = 0;
  shielded = false;
  halted = false;
}

-- PUSH RAX stores eight bytes, each as it stood there
push_rax : turn_stores (supervisor 0) (memory 0x50) ≡ stores 8 0x58 0
unfolding turn_stores instruction_stores instruction_at entry_at slots_from effect_of gathered accessed completed reached crosses has_canonical_bytes first_part number_at stores stored wp_of smep_of
push_rax = refl

-- NOP stores nothing
nop : turn_stores (supervisor 0) (memory 0x90) ≡ []
unfolding turn_stores instruction_stores instruction_at entry_at slots_from effect_of gathered accessed completed reached crosses has_canonical_bytes first_part number_at stores stored wp_of smep_of
nop = refl

-- INT3 stores the frame of vector 3, with RIP behind it
int3 : turn_stores (supervisor 0xFFFFFF7FFFFFFFD0) (memory 0xCC)
    ≡ stores 8 0x78 0x10 ++ stores 8 0x70 0xFFFFFF8000000060 ++ stores 8 0x68 2 ++ stores 8 0x60 8
    ++ stores 8 0x58 0xFFFFFF8000000011
unfolding turn_stores instruction_stores instruction_at entry_at slots_from effect_of gathered interrupt_allowed delivery_stores push_stores entry_found gate_read pushed accessed completed reached crosses has_canonical_bytes first_part number_at stores stored wp_of smep_of
int3 = refl

-- UD2 stores the frame of vector 6, with RIP at it
ud2 : turn_stores (supervisor 0xFFFFFF7FFFFFFFA0) (memory 0x0B0F)
    ≡ stores 8 0x78 0x10 ++ stores 8 0x70 0xFFFFFF8000000060 ++ stores 8 0x68 2 ++ stores 8 0x60 8
    ++ stores 8 0x58 0xFFFFFF8000000010
unfolding turn_stores instruction_stores instruction_at entry_at slots_from effect_of gathered delivery_stores push_stores entry_found gate_read pushed accessed completed reached crosses has_canonical_bytes first_part number_at stores stored wp_of smep_of
ud2 = refl
