-- The bytes that parts load.
use Rattle.std.proofs.Common.{◌≡◌, ℕ, suc, zero, ◌+◌, ◌-◌, ◌/◌, ◌<◌, ◌≤◌, ◌⊎◌, false, ◌&&◌, List, [], ◌∷◌, ◌++◌, length, map, take, drop, get_or, Some, inl, inr, refl, sym, ap, ◌∙◌, arith, length-take-le, length-drop}
use Rattle.std.specs.Prelude.{find, nat_le, nat_lt, slice_index}
use Rattle.std.specs.List.{All}
use Rattle.std.proofs.lemmas.Bool.{and_from, and_left, and_right, cases_Bool, cases_lt, cond-false, cond-true, le-leb, le-ltb, lt-leb, lt-ltb, and_parts, leb-true, ltb-true}
use Rattle.std.proofs.lemmas.List.{get_or-drop, get_or-take, get_or_past}
use Rattle.std.proofs.lemmas.List.Elements.{All-head, All-tail}
use Rattle.elf_image.specs.declared.program_header.ProgramHeader.{ProgramHeader}
use Rattle.elf_image.specs.Pages.{byte_from}
use Rattle.elf_image.specs.SegmentForm.{IsPlaced}
use Rattle.elf_image.specs.Segments.{loads}
use Rattle.code_modules.specs.FormWords.{LieApart, EachApart, IsLoadable, unplaced, header_from, loaded_byte, numbered}
use Rattle.code_modules.specs.JoinAnswers.{part_first, part_last}
use Rattle.code_modules.specs.JoinedFile.{FilePart, part_end}
use Rattle.code_modules.specs.JoinedParts.{JoinedPart, image_part}

-- a file has the bytes of a part at its place
abbrev pub HoldsPart : List ℕ → FilePart → Type 0
HoldsPart file p = (at : ℕ) → p.offset ≤ at → at < part_end p → slice_index file at ≡ slice_index p.part.bytes (at - p.offset)

-- what program headers load from a file that has the bytes of their parts
pub from_headers : (file : List ℕ) (va k : ℕ) (ps : List FilePart) → All (HoldsPart file) ps
    → byte_from file va (find (λ s. loads s va) (numbered k ps)) ≡ loaded_byte (map (λ p. p.part) ps) va
from_headers file va k [] all = refl
from_headers file va k (p ∷ ps) all = elim (cases_Bool (loads (header_from k p) va)) [
  | inl here ↦
      let parts = and_parts (nat_le p.part.address va) (nat_lt va (p.part.address + length p.part.bytes)) here in
      let low = leb-true p.part.address va parts.0 in
      let high = ltb-true va (p.part.address + length p.part.bytes) parts.1 in
      let same : p.offset + (va - p.part.address) - p.offset ≡ va - p.part.address = omega arith in
      ap (byte_from file va) (cond-true (loads (header_from k p) va) (Some (header_from k p)) _ here)
      ∙ All-head (HoldsPart file) p ps all (p.offset + (va - p.part.address)) (omega arith) (omega arith)
      ∙ ap (slice_index p.part.bytes) same
      ∙ sym (cond-true (loads (unplaced p.part) va) (slice_index p.part.bytes (va - p.part.address)) _ here)
  | inr gone ↦
      ap (byte_from file va) (cond-false (loads (header_from k p) va) (Some (header_from k p)) _ gone)
      ∙ from_headers file va (k + 1) ps (All-tail (HoldsPart file) p ps all)
      ∙ sym (cond-false (loads (unplaced p.part) va) (slice_index p.part.bytes (va - p.part.address)) _ gone)
]

-- where a part loads nothing, the later ones do
pub skips : (p : JoinedPart) (later : List JoinedPart) (va : ℕ) → loads (unplaced p) va ≡ false → loaded_byte (p ∷ later) va ≡ loaded_byte later va
skips p later va gone = cond-false (loads (unplaced p) va) _ _ gone

pub none_loads : (parts : List JoinedPart) (va : ℕ) → All (λ p. loads (unplaced p) va ≡ false) parts → loaded_byte parts va ≡ 0
none_loads [] va all = refl
none_loads (p ∷ later) va all =
    skips p later va (All-head (λ q. loads (unplaced q) va ≡ false) p later all)
    ∙ none_loads later va (All-tail (λ q. loads (unplaced q) va ≡ false) p later all)

-- parts behind others that load nothing change nothing
pub none_behind : (front back : List JoinedPart) (va : ℕ) → loaded_byte back va ≡ 0 → loaded_byte (front ++ back) va ≡ loaded_byte front va
none_behind [] back va none = none
none_behind (p ∷ front) back va none = elim (cases_Bool (loads (unplaced p) va)) [
  | inl here ↦
      cond-true (loads (unplaced p) va) (slice_index p.bytes (va - p.address)) _ here
      ∙ sym (cond-true (loads (unplaced p) va) (slice_index p.bytes (va - p.address)) _ here)
  | inr gone ↦ skips p (front ++ back) va gone ∙ none_behind front back va none ∙ sym (skips p front va gone)
]

-- an address before a part, and one behind it
pub before_part : (p : JoinedPart) (va : ℕ) → va < p.address → loads (unplaced p) va ≡ false
before_part p va low = and_left (nat_le p.address va) (nat_lt va (p.address + length p.bytes)) (lt-leb p.address va low)

pub past_loaded : (p : JoinedPart) (va : ℕ) → p.address + length p.bytes ≤ va → loads (unplaced p) va ≡ false
past_loaded p va past = and_right (nat_le p.address va) (nat_lt va (p.address + length p.bytes)) (le-ltb va (p.address + length p.bytes) past)

-- a part loads nothing to the pages of one that is apart
apart_page : (p q : JoinedPart) (va : ℕ) → LieApart p q ⊎ LieApart q p → IsLoadable q → part_first p ≤ va / 4096 → va / 4096 ≤ part_last p
    → loads (unplaced q) va ≡ false
apart_page p q va (inl (inl below)) it low high = before_part q va (omega arith)
apart_page p q va (inl (inr above)) it low high = past_loaded q va (omega (arith, it.backed, it.takes))
apart_page p q va (inr (inl above)) it low high = past_loaded q va (omega (arith, it.backed, it.takes))
apart_page p q va (inr (inr below)) it low high = before_part q va (omega arith)

-- the byte at an address of a part's pages, from its first byte on
pub own_byte : (parts : List JoinedPart) (i : ℕ) (d : JoinedPart) (va : ℕ) → EachApart parts → All IsLoadable parts → i < length parts
    → (get_or parts i d).address ≤ va → va / 4096 ≤ part_last (get_or parts i d)
    → loaded_byte parts va ≡ slice_index (get_or parts i d).bytes (va - (get_or parts i d).address)
own_byte [] i d va apart all inside low high = absurd (omega arith)
own_byte (p ∷ later) zero d va apart all inside low high =
    let first : part_first p ≤ va / 4096 = omega arith in
    let rest : loaded_byte later va ≡ 0 =
    none_loads later va (λ j e below. apart_page p (get_or later j e) va (inl (apart.0 j e below)) (All-tail IsLoadable p later all j e below) first high) in
    elim (cases_lt va (p.address + length p.bytes)) [
      | inl within ↦ cond-true (loads (unplaced p) va) _ _ (and_from _ _ (le-leb p.address va low) (lt-ltb va (p.address + length p.bytes) within))
      | inr past ↦
          skips p later va (past_loaded p va past) ∙ rest
          ∙ sym (get_or_past p.bytes (va - p.address) 0 (omega arith))
    ]
own_byte (p ∷ later) (suc i) d va apart all inside low high =
    let within : i < length later = omega arith in
    let first : part_first (get_or later i d) ≤ va / 4096 = omega arith in
    skips p later va (apart_page (get_or later i d) p va (inr (apart.0 i d within)) (All-head IsLoadable p later all) first high)
    ∙ own_byte later i d va apart.1 (All-tail IsLoadable p later all) within low high

-- what the image's parts load is what the image does
pub from_image : (b : List ℕ) (va : ℕ) (segs : List ProgramHeader) → All (IsPlaced (length b)) segs
    → loaded_byte (map (image_part b) segs) va ≡ byte_from b va (find (λ s. loads s va) segs)
from_image b va [] all = refl
from_image b va (s ∷ segs) all =
    let placed : IsPlaced (length b) s = All-head (IsPlaced (length b)) s segs all in
    let room : s.file_size ≤ length (drop s.offset b) = omega (arith, length-drop s.offset b, placed.inside) in
    let size : length (take s.file_size (drop s.offset b)) ≡ s.file_size = length-take-le s.file_size (drop s.offset b) room in
    let same : loads (unplaced (image_part b s)) va ≡ loads s va = ap (λ n. nat_le s.address va && nat_lt va (s.address + n)) size in
    elim (cases_Bool (loads s va)) [
      | inl here ↦
          let parts = and_parts (nat_le s.address va) (nat_lt va (s.address + s.file_size)) here in
          let high = ltb-true va (s.address + s.file_size) parts.1 in
          let low = leb-true s.address va parts.0 in
          cond-true (loads (unplaced (image_part b s)) va) _ _ (same ∙ here)
          ∙ get_or-take s.file_size (drop s.offset b) (va - s.address) 0 (omega arith)
          ∙ get_or-drop s.offset b (va - s.address) 0
          ∙ sym (ap (byte_from b va) (cond-true (loads s va) (Some s) _ here))
      | inr gone ↦
          skips (image_part b s) (map (image_part b) segs) va (same ∙ gone)
          ∙ from_image b va segs (All-tail (IsPlaced (length b)) s segs all)
          ∙ sym (ap (byte_from b va) (cond-false (loads s va) (Some s) _ gone))
    ]
