-- The opening's kinds and bytes, frame by frame.
use Rattle.std.proofs.Common.{◌≡◌, ℕ, ◌+◌, ◌*◌, ◌<◌, ◌≤◌, List, length, get_or, refl, sym, ap, ◌∙◌, arith}
use Rattle.std.proofs.lemmas.List.{length-map}
use Rattle.std.proofs.lemmas.List.FromFn.{get_or-map-range_with_len, length-range_with_len}
use Rattle.std.specs.List.{range_with_len}
use Rattle.phys_mem.specs.Memory.{byte_at}
use Rattle.nk_bits.specs.declared.kind.Kind.TheVariants.{Table, Fixed, Hidden}
use Rattle.nk_bits.specs.Kinds.{kind_of}
use Rattle.gate_text.specs.Listing.{gate_byte}
use Rattle.elf_image.specs.Pages.{byte_of, page_count, pages_of}
use Rattle.boot_map.specs.declared.part.Part.{Part}
use Rattle.boot_map.specs.declared.part.Part.TheVariants.{GateText, ImagePage}
use Rattle.nk_bits.specs.KernelLayout.{area_directory, area_table, gate_text, handler_slot, idt_and_tss, image_directory, nested_stack, opening_root, slot_table}
use Rattle.boot_map.specs.Division.{Division, IsLayout, division_of, free_start, pages_start}
use Rattle.boot_map.specs.Parts.{part_at}
use Rattle.boot_map.specs.OpeningKinds.{kind_at, kind_of_part, kinds}
use Rattle.boot_map.specs.Opening.{IsOpening, byte_of_part}
use Rattle.boot_map.proofs.FillLaws.{byte_of_frame}
use Rattle.boot_map.proofs.SlotLeaves.{image_page_part}

-- the kinds of the frames that every opening has at the same place
pub fixed_kinds : (b : List ℕ) (frames : ℕ) → (kind_at b frames idt_and_tss ≡ Fixed) × (kind_at b frames gate_text ≡ Fixed) × (kind_at b frames handler_slot ≡ Fixed) × (kind_at b frames nested_stack ≡ Fixed)
    × (kind_at b frames slot_table ≡ Fixed) × (kind_at b frames area_directory ≡ Fixed) × (kind_at b frames area_table ≡ Fixed) × (kind_at b frames image_directory ≡ Fixed)
unfolding kind_at part_at
fixed_kinds b frames = (refl, refl, refl, refl, refl, refl, refl, refl)

pub root_kind : (b : List ℕ) (frames : ℕ) → kind_at b frames opening_root ≡ Table 4
unfolding kind_at part_at
root_kind b frames = refl

-- the list of the kinds
pub kinds_length : (b : List ℕ) (frames : ℕ) → length (kinds b frames) ≡ frames
unfolding kinds
kinds_length b frames = length-map (range_with_len 0 frames) (kind_at b frames) ∙ length-range_with_len 0 frames

pub kinds_each : (b : List ℕ) (frames f : ℕ) → f < frames → kind_of (kinds b frames) f ≡ kind_at b frames f
unfolding kinds
kinds_each b frames f small = get_or-map-range_with_len (kind_at b frames) 0 frames f f Hidden small (omega arith)

pub kind_at_part : (b : List ℕ) (frames f : ℕ) → kind_at b frames f ≡ kind_of_part b (part_at (division_of b frames) f)
unfolding kind_at
kind_at_part b frames f = refl

-- the bytes of a frame, by its part
byte_of_opening : (b m : List ℕ) (frames f o : ℕ) (part : Part) → IsOpening b frames m → f < frames → o < 4096 → part_at (division_of b frames) f ≡ part → byte_at m (4096 * f + o) ≡ byte_of_part b (division_of b frames) part o
byte_of_opening b m frames f o part opening inside small is =
    opening.bytes (4096 * f + o) (omega arith) ∙ sym (byte_of_frame b (division_of b frames) frames f o refl small) ∙ ap (λ p. byte_of_part b (division_of b frames) p o) is

gate_text_part : (d : Division) → part_at d gate_text ≡ GateText
unfolding part_at
gate_text_part d = refl

pub gate_bytes : (b m : List ℕ) (frames o : ℕ) → IsOpening b frames m → IsLayout b (division_of b frames) → o < 4096 → byte_at m (4096 * gate_text + o) ≡ gate_byte o
gate_bytes b m frames o opening layout small =
    let least : 512 ≤ frames = layout.least in
    byte_of_opening b m frames gate_text o GateText opening (omega arith) small (gate_text_part (division_of b frames))

pub image_bytes : (b m : List ℕ) (frames k o : ℕ) → IsOpening b frames m → IsLayout b (division_of b frames) → k < page_count b → o < 4096
    → byte_at m (4096 * (pages_start (division_of b frames) + k) + o) ≡ byte_of b (4096 * get_or (pages_of b) k 0 + o)
image_bytes b m frames k o opening layout within small =
    let room : free_start (division_of b frames) ≤ frames = layout.room in
    byte_of_opening b m frames (pages_start (division_of b frames) + k) o (ImagePage k) opening (omega arith) small (image_page_part (division_of b frames) k within)
