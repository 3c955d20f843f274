-- The opening's memory holds bytes.
use Rattle.std.proofs.Common.{ℕ, zero, suc, ◌+◌, ◌-◌, ◌*◌, ◌/◌, ◌%◌, ◌^◌, ◌<◌, Bool, true, false, List, [], ◌∷◌, arith}
use Rattle.std.specs.Prelude.{Option, None, Some, find, ◌==◌, ◌&&◌, ◌||◌, nat_le, nat_lt, if◌then◌else◌, slice_index}
use Rattle.std.proofs.lemmas.Nat.{mod_below}
use Rattle.elf_image.specs.declared.program_header.ProgramHeader.{ProgramHeader}
use Rattle.elf_image.specs.Elf.{segments}
use Rattle.elf_image.specs.Pages.{byte_from, byte_of, pages_of}
use Rattle.elf_image.specs.Segments.{loads}
use Rattle.boot_map.specs.declared.part.Part.{Part}
use Rattle.boot_map.specs.declared.part.Part.TheVariants.{IdtAndTss, GateText, HandlerSlot, ImagePage}
use Rattle.boot_map.specs.Division.{Division, division_of}
use Rattle.nk_bits.specs.KernelLayout.{trap_stack_top}
use Rattle.boot_map.specs.Opening.{division_byte, byte_of_number, byte_of_part, entry_byte, gate_of, gate_target, gate_type, halt_loop, handler_byte, idt_and_tss_byte}
use Rattle.boot_map.specs.OpeningEntries.{entry_of_part, table_level}
use Rattle.boot_map.specs.Parts.{part_at}
use Rattle.gate_text.specs.ListingLaws.{ListingLaws}

-- a choice of two bytes
either_small : (b : Bool) (x y : ℕ) → x < 256 → y < 256 → (if b then x else y) < 256
either_small true x y one other = one
either_small false x y one other = other

-- each number of a list is a byte
abbrev AreSmall : List ℕ → Type 0
AreSmall [] = Unit {0}
AreSmall (x ∷ xs) = (x < 256) × AreSmall xs

index_small : (xs : List ℕ) (k : ℕ) → AreSmall xs → slice_index xs k < 256
index_small [] k are = omega arith
index_small (x ∷ xs) zero are = are.0
index_small (x ∷ xs) (suc k) are = index_small xs k are.1

number_small : (v k : ℕ) → byte_of_number v k < 256
unfolding byte_of_number
number_small v k = mod_below (v / 256 ^ k) 256 (omega arith)

type_small : (v : ℕ) → gate_type v < 256
type_small v = either_small (v == 3 || v == 4 || v == 47) 0xEE 0x8E (omega arith) (omega arith)

gate_small : (v : ℕ) → AreSmall (gate_of v)
unfolding gate_of
gate_small v =
    let at = gate_target v in (
      number_small at 0,
      (
        number_small at 1,
        (
          omega arith,
          (
            omega arith,
            (
              omega arith,
              (
                type_small v,
                (
                  number_small at 2,
                  (
                    number_small at 3,
                    (
                      number_small at 4,
                      (
                        number_small at 5,
                        (
                          number_small at 6,
                          (
                            number_small at 7,
                            (omega arith, (omega arith, (omega arith, (omega arith, tt)))),
                          ),
                        ),
                      ),
                    ),
                  ),
                ),
              ),
            ),
          ),
        ),
      ),
    )

idt_small : (o : ℕ) → idt_and_tss_byte o < 256
unfolding idt_and_tss_byte
idt_small o =
    either_small (nat_lt o 768) _ _ (index_small (gate_of (o / 16)) (o % 16) (gate_small (o / 16)))
    (either_small (nat_le 1060 o && nat_lt o 1068) _ _ (number_small trap_stack_top (o - 1060)) (omega arith))

handler_small : (o : ℕ) → handler_byte o < 256
handler_small o = either_small (nat_lt o 8) _ _ (number_small halt_loop o) (omega arith)

image_small : (b : List ℕ) (va : ℕ) → ((i : ℕ) → slice_index b i < 256) → byte_of b va < 256
unfolding byte_of
image_small b va bytes = by_segment (find (λ s. loads s va) (segments b))
  where
    by_segment : (s : Option ProgramHeader) → byte_from b va s < 256
    by_segment None = omega arith
    by_segment (Some s) = bytes (s.offset + (va - s.address))

table_small : (b : List ℕ) (d : Division) (part : Part) (o : ℕ) → (if table_level part == 0 then 0 else entry_byte (entry_of_part b d part) o) < 256
table_small b d part o = either_small (table_level part == 0) _ _ (omega arith) (number_small (entry_of_part b d part (o / 8)) (o % 8))

part_small : (laws : ListingLaws) (b : List ℕ) (d : Division) (part : Part) (o : ℕ) → ((i : ℕ) → slice_index b i < 256) → o < 4096 → byte_of_part b d part o < 256
part_small laws b d IdtAndTss o bytes within = idt_small o
part_small laws b d GateText o bytes within = laws.bytes o within
part_small laws b d HandlerSlot o bytes within = handler_small o
part_small laws b d (ImagePage k) o bytes within = image_small b (4096 * slice_index (pages_of b) k + o) bytes
part_small laws b d part o bytes within = table_small b d part o

pub byte_small : (laws : ListingLaws) (b : List ℕ) (frames place : ℕ) → ((i : ℕ) → slice_index b i < 256) → division_byte b frames place < 256
unfolding division_byte
byte_small laws b frames place bytes = part_small laws b (division_of b frames) (part_at (division_of b frames) (place / 4096)) (place % 4096) bytes (mod_below place 4096 (omega arith))
