-- Where the bytes of a row's region stand in memory.
use Rattle.std.proofs.Common.{◌≡◌, ℕ, ◌+◌, ◌-◌, ◌*◌, ◌/◌, ◌%◌, ◌<◌, ◌≤◌, Bool, true, false, List, [], ◌∷◌, length, take, arith, refl, sym, ap, ◌∙◌, subst, inl, inr, slice_index}
use Rattle.std.specs.Prelude.{All, if◌then◌else◌}
use Rattle.std.specs.List.{range_with_len}
use Rattle.std.proofs.lemmas.Bool.{cases_Bool}
use Rattle.std.proofs.lemmas.List.{get_or-take}
use Rattle.std.proofs.lemmas.List.FromFn.{get_or-range_with_len}
use Rattle.region_book.specs.declared.row.Row.{Row}
use Rattle.nk_bits.specs.KernelLayout.{pool_frame, pool_start}
use Rattle.region_book.specs.RegionRecords.{IsRegion, RegionRecord, byte_place, region_stores}
use Rattle.region_book.specs.RegionRows.{IsHeld, frames_of_row, row_place, place_of_row, region_with, row_stores}

-- in the pool the frames follow one another
pool_byte : (p size offset : ℕ) → offset < size →
    4096 * slice_index (range_with_len (10 + p / 4096) ((p % 4096 + size + 4095) / 4096)) ((p % 4096 + offset) / 4096) +
    (p % 4096 + offset) % 4096 ≡ 4096 * 10 + p + offset
pool_byte p size offset within =
    let frame = get_or-range_with_len (10 + p / 4096) ((p % 4096 + size + 4095) / 4096) ((p % 4096 + offset) / 4096) 0
    (omega arith) in
    omega (arith, frame)

page_byte : (frames : List ℕ) (size offset : ℕ) → offset < size → size % 4096 ≡ 0 →
    4096 * slice_index (take (size / 4096) frames) ((0 + offset) / 4096) +
    (0 + offset) % 4096 ≡ 4096 * slice_index frames (offset / 4096) + offset % 4096
page_byte frames size offset within whole =
    let same : 0 + offset ≡ offset = omega arith in
    ap (λ o. 4096 * slice_index (take (size / 4096) frames) (o / 4096) + o % 4096) same
    ∙ ap (λ f. 4096 * f + offset % 4096) (get_or-take (size / 4096) frames (offset / 4096) 0 (omega (arith, whole)))

pub byte_place_is : (slots : ℕ) (row : Row) (written : List Bool) (offset : ℕ) → IsHeld slots row → offset < row.size →
    byte_place (region_with written row) offset ≡ row_place row offset
unfolding frames_of_row row_place place_of_row
byte_place_is slots row written offset held within =
    elim (cases_Bool row.pooled) [
      | inl pooled ↦ go true pooled (pool_byte (row.first - pool_start) row.size offset within)
      | inr declared ↦ go false declared (page_byte row.frames row.size offset within (held.declared declared).0)
    ]
  where
    frames : Bool → List ℕ
    frames b = if b then range_with_len (pool_frame + (row.first - pool_start) / 4096)
        (((row.first - pool_start) % 4096 + row.size + 4095) / 4096) else take (row.size / 4096) row.frames

    place : Bool → ℕ
    place b = if b then (row.first - pool_start) % 4096 else 0

    found : Bool → ℕ
    found b = if b then 4096 * pool_frame + (row.first - pool_start) + offset else 4096 * slice_index row.frames
        (offset / 4096) + offset % 4096

    go : (b : Bool) → row.pooled ≡ b →
        4096 * slice_index (frames b) ((place b + offset) / 4096) + (place b + offset) % 4096 ≡ found b →
        4096 * slice_index (frames row.pooled) ((place row.pooled + offset) / 4096) +
        (place row.pooled + offset) % 4096 ≡ found row.pooled
    go b is holds = subst (λ b. 4096 * slice_index (frames b) ((place b + offset) / 4096) +
        (place b + offset) % 4096 ≡ found b) (sym is) holds

-- each byte of a region stands in one of its frames
pub place_within : (next size offset : ℕ) (r : RegionRecord) → IsRegion next r → offset < r.size →
    All (λ f. 4096 * f + 4096 ≤ size) r.frames → byte_place r offset < size
place_within next size offset r is within frames =
    let frame = frames ((r.place + offset) / 4096) 0 (omega (arith, is.held)) in
    omega (arith, frame)

-- what holds of each frame holds of a byte's
pub frame_of_place : (next offset : ℕ) (r : RegionRecord) (P : ℕ → Type 0) → IsRegion next r → offset < r.size →
    All P r.frames → P (byte_place r offset / 4096)
frame_of_place next offset r P is within frames =
    let frame = frames ((r.place + offset) / 4096) 0 (omega (arith, is.held)) in
    let same : byte_place r offset / 4096 ≡ slice_index r.frames ((r.place + offset) / 4096) = omega arith in
    subst P (sym same) frame

-- the stores of a region are those of its row
pub region_stores_is : (slots : ℕ) (row : Row) (written : List Bool) (offset : ℕ) (bytes : List ℕ) → IsHeld slots row →
    offset + length bytes ≤ row.size →
    region_stores (region_with written row) offset bytes ≡ row_stores row offset bytes
unfolding region_stores row_stores
region_stores_is slots row written offset [] held fits = refl
region_stores_is slots row written offset (b ∷ bytes) held fits =
    ap (λ place. (place, b) ∷ region_stores (region_with written row) (offset + 1) bytes)
    (byte_place_is slots row written offset held (omega arith))
    ∙ ap (λ later. (row_place row offset, b) ∷ later)
    (region_stores_is slots row written (offset + 1) bytes held (omega arith))
