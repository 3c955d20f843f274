-- Deliveries at worked values, through the whole definition: SDM volume 3, 6.14. Memory is sixteen words, of which the
-- first two are gate 0 and the seventh is IST1; the page FFFFFF8000000000 is kept, and is frame 0.
use Rattle.std.proofs.Common.{◌≡◌, ℕ, zero, suc, ◌/◌, ◌%◌, ◌++◌, true, false, List, [], ◌∷◌, refl}
use Rattle.std.specs.Prelude.{Some, None, Ok, Err}
use Rattle.nk_bits.specs.declared.control.Control.{Control}
use Rattle.nk_bits.specs.Accesses.{accessed, completed, reached, crosses, first_part, has_canonical_bytes, wp_of, smep_of}
use Rattle.nk_bits.specs.Paging.{is_missing, is_present, page_index, walk}
use Rattle.nk_bits.specs.Translations.{Translations}
use Rattle.nk_bits.specs.UpperEntries.{walk_by}
use Rattle.phys_mem.specs.Memory.{entry_in, number_at, stored, stores}
use Rattle.x86_alu.specs.Flags.{with_flag}
use Rattle.x86_regs.specs.declared.delivery.Tables.{Tables}
use Rattle.x86_regs.specs.declared.registers.Regs.{Regs}
use Rattle.nk_bits.specs.Outcomes.{answered}
use Rattle.trap_unit.specs.DeliveryStores.{delivery_stores, push_stores}
use Rattle.trap_unit.specs.TrapDelivery.{delivered, entry_found, gate_read, interrupt_allowed, pushed, shut}

-- the bytes of 64-bit words, least significant first
abbrev bytes_of : ℕ → ℕ → List ℕ
bytes_of zero word = []
bytes_of (suc n) word = (word % 256) ∷ bytes_of n (word / 256)

abbrev words : List ℕ → List ℕ
words [] = []
words (word ∷ rest) = bytes_of 8 word ++ words rest

-- RSP, RIP, RFLAGS, the CPL and SS
abbrev regs : ℕ → ℕ → ℕ → ℕ → ℕ → Regs
regs sp rip flags cpl ss = record {
  general = 0 ∷ 1 ∷ 2 ∷ 3 ∷ sp ∷ 5 ∷ 6 ∷ 7 ∷ 8 ∷ 9 ∷ 10 ∷ 11 ∷ 12 ∷ 13 ∷ 14 ∷ 15 ∷ [];
  rip = rip;
  flags = flags;
  cpl = cpl;
  ss = ss;
}

abbrev control : Control
control = record { cr0 = 0x80010001; cr2 = 0; root = 5; cr4 = 0x100020; efer = 0xD00 }

abbrev tables : Tables
tables = record { idt = 0xFFFFFF8000000000; limit = 15; tss = 0xFFFFFF800000000C }

abbrev kept : Translations
kept = record { pairs = (0xFFFFFF8000000, record { frame = 0; rights = record { can_write = true; user = false; exec = false } }) ∷ []; upper = [] }

-- memory with this IST1 and the words behind it
abbrev memory : ℕ → List ℕ → List ℕ
memory ist rest = words (0x00008E0100081040 ∷ 0xFFFFFF80 ∷ 0 ∷ 0 ∷ 0 ∷ 0 ∷ ist ∷ rest)

-- nine words that are 0
abbrev blank : List ℕ
blank = 0 ∷ 0 ∷ 0 ∷ 0 ∷ 0 ∷ 0 ∷ 0 ∷ 0 ∷ 0 ∷ []

-- from CPL 3 with the code 5: the stack's top is 80, which is 88 aligned
with_a_code :
    delivered (regs 0x7008 0x401234 0x246 3 0x23) control tables 0 (Some 5) (memory 0xFFFFFF8000000088 blank) kept
    ≡ record {
      regs = regs 0xFFFFFF8000000050 0xFFFFFF8000001040 0x46 0 0;
      memory = memory 0xFFFFFF8000000088 (0 ∷ 0 ∷ 0 ∷ 5 ∷ 0x401234 ∷ 0x1B ∷ 0x246 ∷ 0x7008 ∷ 0x23 ∷ []);
      tlb = kept;
      answer = Ok tt;
    }
unfolding delivered entry_found gate_read pushed accessed completed reached crosses has_canonical_bytes first_part number_at stores stored wp_of smep_of with_flag
with_a_code = refl

-- from CPL 0 without a code: SS stays, and one word fewer is pushed
without_a_code :
    delivered (regs 0x7008 0x401234 2 0 0x10) control tables 0 None (memory 0xFFFFFF8000000080 blank) kept
    ≡ record {
      regs = regs 0xFFFFFF8000000058 0xFFFFFF8000001040 2 0 0x10;
      memory = memory 0xFFFFFF8000000080 (0 ∷ 0 ∷ 0 ∷ 0 ∷ 0x401234 ∷ 8 ∷ 2 ∷ 0x7008 ∷ 0x10 ∷ []);
      tlb = kept;
      answer = Ok tt;
    }
unfolding delivered entry_found gate_read pushed accessed completed reached crosses has_canonical_bytes first_part number_at stores stored wp_of smep_of with_flag
without_a_code = refl

-- the stack's top is 10, and the third push would go to a page that has no translation: SS and RSP are pushed over gate
-- 0, and the registers stay
third_push_faults :
    delivered (regs 0x7008 0x401234 0x246 3 0x23) control tables 0 None (memory 0xFFFFFF8000000010 blank) kept
    ≡ record {
      regs = regs 0x7008 0x401234 0x246 3 0x23;
      memory = words (0x7008 ∷ 0x23 ∷ 0 ∷ 0 ∷ 0 ∷ 0 ∷ 0xFFFFFF8000000010 ∷ blank);
      tlb = kept;
      answer = Err shut;
    }
unfolding delivered entry_found gate_read pushed accessed completed reached crosses has_canonical_bytes first_part number_at stores stored wp_of smep_of with_flag walk walk_by entry_in is_missing is_present page_index
third_push_faults = refl

-- the stores of the first and of the last of these: six words, the code lowest; and the two words of the pushes made
stores_are :
    (delivery_stores (regs 0x7008 0x401234 0x246 3 0x23) control tables 0 (Some 5) (memory 0xFFFFFF8000000088 blank) kept
    ≡ stores 8 0x78 0x23 ++ stores 8 0x70 0x7008 ++ stores 8 0x68 0x246 ++ stores 8 0x60 0x1B ++ stores 8 0x58 0x401234
    ++ stores 8 0x50 5) ×
    (delivery_stores (regs 0x7008 0x401234 0x246 3 0x23) control tables 0 None (memory 0xFFFFFF8000000010 blank) kept
    ≡ stores 8 8 0x23 ++ stores 8 0 0x7008)
unfolding delivery_stores push_stores entry_found gate_read pushed accessed completed reached crosses has_canonical_bytes first_part number_at stores stored wp_of smep_of walk walk_by entry_in is_missing is_present page_index
stores_are = (refl, refl)

-- gate 1 passes the limit, and nothing is read
gate_is_past_the_limit : (m : List ℕ) (tlb : Translations) →
    delivered (regs 0x7008 0x401234 0x246 3 0x23) control tables 1 None m tlb
    ≡ record { regs = regs 0x7008 0x401234 0x246 3 0x23; memory = m; tlb = tlb; answer = Err shut }
unfolding delivered entry_found
gate_is_past_the_limit m tlb = refl

-- gate 0 of level 0: INT 0 is for CPL 0 alone; INT 1 passes the limit
interrupts :
    (interrupt_allowed control tables 0 0 (memory 0 blank) kept ≡ answered true kept) ×
    (interrupt_allowed control tables 3 0 (memory 0 blank) kept ≡ answered false kept) ×
    (interrupt_allowed control tables 0 1 (memory 0 blank) kept ≡ answered false kept)
unfolding interrupt_allowed accessed completed reached crosses has_canonical_bytes first_part number_at wp_of smep_of
interrupts = (refl, refl, refl)
