-- The definitions at worked values: an image of one page, or of 489 pages in one range, and a memory of 512 frames.
use Rattle.std.proofs.Common.{◌≡◌, ℕ, ◌*◌, List, [], ◌∷◌, refl, length, ap}
use Rattle.elf_image.specs.Pages.{page_count}
use Rattle.boot_map.specs.declared.part.Part.TheVariants.{ImagePage, MapRoot, MapDirectory, MapTable, Free, RangeTable, Descriptors}
use Rattle.boot_map.specs.Division.{page_in, ranges_of, division_of, free_start, need}
use Rattle.boot_map.specs.Parts.{part_at}
use Rattle.boot_map.specs.OpeningEntries.{opening_entry, entry_of_part, link, leaf}
use Rattle.boot_map.specs.Opening.{idt_and_tss_byte, gate_of, handler_byte, byte_of_number}

-- the first page of the home is that of its first address
first_page : 4096 * page_in 0 0 ≡ 0xFFFFFFFF80000000
first_page = refl

last_page : 4096 * page_in 511 511 ≡ 0xFFFFFFFFBFFFF000
last_page = refl

need_of_489 : (b : List ℕ) → length (ranges_of b) ≡ 1 → page_count b ≡ 489 → need b 512 ≡ 559
need_of_489 b r m = rw (r, m) refl

module _ (b : List ℕ) (one : division_of b 512 ≡ record { frames = 512; ranges = 0 ∷ []; pages = 1 }) where
  need_of_one : need b 512 ≡ 71
  need_of_one = ap free_start one

  parts : (part_at (division_of b 512) 65 ≡ Descriptors) × (part_at (division_of b 512) 66 ≡ RangeTable 0) × (part_at (division_of b 512) 67 ≡ ImagePage 0)
  unfolding part_at
  parts = (ap (λ d. part_at d 65) one, ap (λ d. part_at d 66) one, ap (λ d. part_at d 67) one)

  map_parts : (part_at (division_of b 512) 68 ≡ MapRoot) × (part_at (division_of b 512) 69 ≡ MapDirectory) × (part_at (division_of b 512) 70 ≡ MapTable 0) × (part_at (division_of b 512) 71 ≡ Free)
  unfolding part_at
  map_parts = (ap (λ d. part_at d 68) one, ap (λ d. part_at d 69) one, ap (λ d. part_at d 70) one, ap (λ d. part_at d 71) one)

  -- the direct map: the first free frame, and a hidden one
  free_entry : opening_entry b 512 70 71 ≡ 0x8000000000047063
  unfolding opening_entry part_at leaf
  free_entry = ap (λ d. entry_of_part b d (part_at d 70) 71) one

  hidden_entry : opening_entry b 512 70 26 ≡ 0
  unfolding opening_entry part_at leaf
  hidden_entry = ap (λ d. entry_of_part b d (part_at d 70) 26) one

  -- the kernel slot
  slot_entries : (opening_entry b 512 5 511 ≡ 0x6027) × (opening_entry b 512 6 0 ≡ 0x7027) × (opening_entry b 512 6 510 ≡ 0x9027) × (opening_entry b 512 7 0 ≡ 0x8027)
  unfolding opening_entry part_at link
  slot_entries = (refl, refl, refl, refl)

  area_entries : (opening_entry b 512 8 1 ≡ 0x1021) × (opening_entry b 512 8 3 ≡ 0x8000000000003063) × (opening_entry b 512 8 31 ≡ 0x8000000000019021)
  unfolding opening_entry part_at leaf
  area_entries = (refl, refl, refl)

  image_entries : (opening_entry b 512 9 0 ≡ 0x42027) × (opening_entry b 512 9 1 ≡ 0) × (opening_entry b 512 5 256 ≡ 0x44027)
  unfolding opening_entry part_at link
  image_entries = (ap (λ d. entry_of_part b d (part_at d 9) 0) one, ap (λ d. entry_of_part b d (part_at d 9) 1) one, ap (λ d. entry_of_part b d (part_at d 5) 256) one)

gate_0 : gate_of 0 ≡ 0x40 ∷ 0x10 ∷ 0x08 ∷ 0x00 ∷ 0x01 ∷ 0x8E ∷ 0x00 ∷ 0x00 ∷ 0x80 ∷ 0xFF ∷ 0xFF ∷ 0xFF ∷ 0x00 ∷ 0x00 ∷ 0x00 ∷ 0x00 ∷ []
unfolding gate_of byte_of_number
gate_0 = refl

gate_47 : gate_of 47 ≡ 0xB8 ∷ 0x11 ∷ 0x08 ∷ 0x00 ∷ 0x01 ∷ 0xEE ∷ 0x00 ∷ 0x00 ∷ 0x80 ∷ 0xFF ∷ 0xFF ∷ 0xFF ∷ 0x00 ∷ 0x00 ∷ 0x00 ∷ 0x00 ∷ []
unfolding gate_of byte_of_number
gate_47 = refl

ist1 : (idt_and_tss_byte 1060 ≡ 0x00) × (idt_and_tss_byte 1061 ≡ 0x40) × (idt_and_tss_byte 1064 ≡ 0x80) × (idt_and_tss_byte 1067 ≡ 0xFF) × (idt_and_tss_byte 1068 ≡ 0) × (idt_and_tss_byte 1059 ≡ 0)
unfolding idt_and_tss_byte byte_of_number
ist1 = (refl, refl, refl, refl, refl, refl)

slot : (handler_byte 0 ≡ 0xDA) × (handler_byte 1 ≡ 0x11) × (handler_byte 7 ≡ 0xFF) × (handler_byte 8 ≡ 0)
unfolding byte_of_number
slot = (refl, refl, refl, refl)
