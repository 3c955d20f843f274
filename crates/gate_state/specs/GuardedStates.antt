-- The invariant of the machine: what holds in every state of every run, of which safety follows.
use Rattle.std.specs.Prelude.{◌≡◌, ◌⊎◌, ℕ, ◌+◌, ◌*◌, ◌/◌, ◌^◌, ◌<◌, ◌≤◌, true, false, List, length, slice_index, IfSome}
use Rattle.nk_bits.specs.declared.kind.Kind.{Kind}
use Rattle.nk_bits.specs.Accesses.{wp_of}
use Rattle.nk_bits.specs.Claims.{AllPass}
use Rattle.nk_bits.specs.Kinds.{is_storable, kind_of}
use Rattle.phys_mem.specs.Memory.{IsBytes, byte_at, entry_in}
use Rattle.elf_image.specs.Pages.{IsPageList, pages_of}
use Rattle.byte_scanner.specs.ImageCode.{code_at}
use Rattle.byte_scanner.specs.LeastPlace.{IsNowhere}
use Rattle.boot_map.specs.Division.{IsLayout, division_of}
use Rattle.boot_map.specs.KernelSlot.{HoldsSlot, slot_leaf, slot_start}
use Rattle.boot_map.specs.Opening.{division_byte}
use Rattle.boot_map.specs.OpeningKinds.{kinds}
use Rattle.page_desc.specs.PageTables.{HoldsSoundTables, is_unchanging}
use Rattle.nk_body.specs.KindsKept.{is_reserved, is_settled}
use Rattle.nk_body.specs.NestedRecord.{IsLedgerKept}
use Rattle.cpu_step.specs.Processor.{Processor}
use Rattle.x86_regs.specs.EffectsKept.{AreRegisters}
use Rattle.gate_state.specs.GateWindow.{IsGatePoint}
use Rattle.gate_state.specs.MachineOpening.{opening_tables}
use Rattle.gate_state.specs.MachineStates.{MachineState, Opening}
use Rattle.gate_state.specs.RespectedKinds.{respecting}

-- the opening is that of an image that was admitted and has room: a file of bytes whose layout fits and whose pages are
-- an image's, without a protected encoding anywhere in its code
pub record IsAdmitted (o : Opening) : Type 0 where
  pub bytes : (i : ℕ) → slice_index o.image i < 256
  pub layout : IsLayout o.image (division_of o.image o.frames)
  pub pages : IsPageList o.image (pages_of o.image)
  pub clean : IsNowhere (code_at o.image)

-- CR0 has PE and PG, WP or not, CD or not, and NW only with CD: it is one of six values
abbrev pub IsCr0 : ℕ → Type 0
IsCr0 cr0 =
    (cr0 ≡ 0x80000001) ⊎ (cr0 ≡ 0x80010001) ⊎ (cr0 ≡ 0xC0000001)
    ⊎ (cr0 ≡ 0xC0010001) ⊎ (cr0 ≡ 0xE0000001) ⊎ (cr0 ≡ 0xE0010001)

-- the registers of control are the opening's, but for CR0, and for CR2, which has 64 bits; the CPL is 0 or 3; the
-- pending vectors are 32 to 47
pub record IsControlled (p : Processor) : Type 0 where
  pub cr0 : IsCr0 p.control.cr0
  pub cr2 : p.control.cr2 < 2 ^ 64
  pub cr4 : p.control.cr4 ≡ 0x100020
  pub efer : p.control.efer ≡ 0xD00
  pub tables : p.tables ≡ opening_tables
  pub cpl : (p.regs.cpl ≡ 0) ⊎ (p.regs.cpl ≡ 3)
  pub registers : AreRegisters p.regs
  pub pending : p.pending < 2 ^ 16

-- the kinds of frames, as calls may have changed them: those that no call changes are the opening's, and so are those that no
-- call gives; what a writable leaf of the kernel slot names may be stored to
pub record AreKinds (o : Opening) (ks : List Kind) : Type 0 where
  pub count : length ks ≡ o.frames
  pub settled : (f : ℕ) → is_settled (kind_of (kinds o.image o.frames) f) ≡ true
      → kind_of ks f ≡ kind_of (kinds o.image o.frames) f
  pub reserved : (f : ℕ) → is_reserved (kind_of ks f) ≡ true → kind_of ks f ≡ kind_of (kinds o.image o.frames) f
  pub writable : (page : ℕ) → slot_start ≤ page → page < 2 ^ 52 → IfSome (slot_leaf o.image o.frames page)
      (λ leaf. leaf.rights.can_write ≡ true → is_storable (kind_of ks leaf.frame) ≡ true)

-- memory keeps the opening's bytes in frames that are fixed or code, but for the eight bytes of the handler slot, and with
-- them the kernel slot's own tables
pub record KeepsOpeningBytes (o : Opening) (ks : List Kind) (m : List ℕ) : Type 0 where
  pub size : length m ≡ 4096 * o.frames
  pub are_bytes : IsBytes m
  pub bytes : (place : ℕ) → is_unchanging (kind_of ks (place / 4096)) ≡ true → (place < 0x2000) ⊎ (0x2008 ≤ place)
      → byte_at m place ≡ division_byte o.image o.frames place
  pub slot : HoldsSlot o.image o.frames (entry_in m)

pub record IsGuarded (o : Opening) (s : MachineState) : Type 0 where
  pub control : IsControlled s.processor
  pub kinds : AreKinds o s.kinds
  pub tables : HoldsSoundTables s.kinds s.processor.control.root s.memory
  pub memory : KeepsOpeningBytes o s.kinds s.memory
  pub ledger : IsLedgerKept s.kinds s.ledger
  pub next : s.ledger.book.next ≤ 256 + s.turns
  pub translations : AllPass (respecting o s.kinds) s.processor.tlb
  pub window : wp_of s.processor.control.cr0 ≡ false → IsGatePoint s.processor
