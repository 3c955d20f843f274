-- The bytes of memory at the opening of the image b.
use Rattle.std.specs.Prelude.{◌≡◌, ℕ, ◌+◌, ◌-◌, ◌*◌, ◌/◌, ◌%◌, ◌^◌, ◌<◌, ◌==◌, ◌&&◌, ◌||◌, nat_le, nat_lt, if◌then◌else◌, List, [], ◌∷◌, length, slice_index}
use Rattle.phys_mem.specs.Memory.{byte_at}
use Rattle.elf_image.specs.Pages.{byte_of, pages_of}
use Rattle.nk_bits.specs.KernelLayout.{gate_address, trap_stack_top}
use Rattle.gate_text.specs.Listing.{gate_byte}
use Rattle.boot_map.specs.declared.part.Part.{Part}
use Rattle.boot_map.specs.declared.part.Part.TheVariants.{IdtAndTss, GateText, HandlerSlot, ImagePage}
use Rattle.boot_map.specs.Division.{Division, division_of}
use Rattle.boot_map.specs.Parts.{part_at}
use Rattle.boot_map.specs.OpeningEntries.{entry_of_part, table_level}

-- byte k of a number, least significant first
unfoldable pub byte_of_number : ℕ → ℕ → ℕ
byte_of_number v k = v / 256 ^ k % 256

-- where the gate of vector v leads: its stub in the gates' text
abbrev pub gate_target : ℕ → ℕ
gate_target v = gate_address + 64 + 8 * v

-- the type byte of the gate of vector v: a present 64-bit interrupt gate, for CPL 3 too at vectors 3, 4 and 47
abbrev pub gate_type : ℕ → ℕ
gate_type v = if v == 3 || v == 4 || v == 47 then 0xEE else 0x8E

-- the gate of vector v: offset 15 to 0, the selector 8, IST 1, the type, offset 31 to 16, offset 63 to 32, and four
-- bytes that are reserved: SDM volume 3, 6.14.1
unfoldable pub gate_of : ℕ → List ℕ
gate_of v =
    let at = gate_target v in
    byte_of_number at 0 ∷ byte_of_number at 1 ∷ 0x08 ∷ 0x00 ∷
    0x01 ∷ gate_type v ∷ byte_of_number at 2 ∷ byte_of_number at 3 ∷
    byte_of_number at 4 ∷ byte_of_number at 5 ∷ byte_of_number at 6 ∷ byte_of_number at 7 ∷
    0x00 ∷ 0x00 ∷ 0x00 ∷ 0x00 ∷ []

-- byte o of the frame of the IDT and the TSS: 48 gates, and from 1,024 on the task-state segment with IST1 from its
-- byte 36 on: SDM volume 3, 7.7
unfoldable pub idt_and_tss_byte : ℕ → ℕ
idt_and_tss_byte o =
    if nat_lt o 768 then slice_index (gate_of (o / 16)) (o % 16)
    else if nat_le 1060 o && nat_lt o 1068 then byte_of_number trap_stack_top (o - 1060)
    else 0

-- where traps go until the outer kernel names its handler: the halt loop of the gates' text
abbrev pub halt_loop : ℕ
halt_loop = gate_address + 474

-- byte o of the handler slot's frame
abbrev pub handler_byte : ℕ → ℕ
handler_byte o = if nat_lt o 8 then byte_of_number halt_loop o else 0

-- byte o of a frame of 512 entries of eight bytes, least significant first
abbrev pub entry_byte : (ℕ → ℕ) → ℕ → ℕ
entry_byte entries o = byte_of_number (entries (o / 8)) (o % 8)

-- byte o of a frame of this part; 0 where it holds none of these, and no table
abbrev pub byte_of_part : List ℕ → Division → Part → ℕ → ℕ
byte_of_part b d IdtAndTss o = idt_and_tss_byte o
byte_of_part b d GateText o = gate_byte o
byte_of_part b d HandlerSlot o = handler_byte o
byte_of_part b d (ImagePage k) o = byte_of b (4096 * slice_index (pages_of b) k + o)
byte_of_part b d part o = if table_level part == 0 then 0 else entry_byte (entry_of_part b d part) o

-- these are the 4,096 bytes of a frame that has this byte at each offset
pub record IsFilled (byte : ℕ → ℕ) (bytes : List ℕ) : Type 0 where
  pub full : length bytes ≡ 4096
  pub each : (o : ℕ) → o < 4096 → slice_index bytes o ≡ byte o

-- the byte at place p of a memory of so many frames
unfoldable pub division_byte : List ℕ → ℕ → ℕ → ℕ
division_byte b frames p =
    let d = division_of b frames in byte_of_part b d (part_at d (p / 4096)) (p % 4096)

-- m is the memory of so many frames at the opening of the image b
pub record IsOpening (b : List ℕ) (frames : ℕ) (m : List ℕ) : Type 0 where
  pub length : length m ≡ 4096 * frames
  pub bytes : (p : ℕ) → p < 4096 * frames → byte_at m p ≡ division_byte b frames p
