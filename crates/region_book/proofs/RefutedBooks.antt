-- Books of regions that are not sound.
use Rattle.std.proofs.Common.{◌≡◌, ℕ, ◌+◌, ◌<◌, ◌≤◌, true, false, List, [], ◌∷◌, length, replicate, arith, refl, sym, ap, ◌∙◌, inl, inr}
use Rattle.std.specs.Prelude.{slice_index}
use Rattle.std.specs.List.{Contains, sum_by}
use Rattle.nk_bits.specs.KernelLayout.{pool_start}
use Rattle.region_book.specs.RegionRecords.{Book, IsApart, IsBook, IsRegion, RegionRecord, pages_of_region}

pub two_declared_regions_share_no_frame : (one other : RegionRecord) (next declared f : ℕ) → one.pooled ≡ false →
    other.pooled ≡ false → Contains one.frames f → Contains other.frames f →
    IsBook (record { regions = one ∷ other ∷ []; next = next; declared = declared }) → ⊥
two_declared_regions_share_no_frame one other next declared f one_is other_is in_one in_other book =
    (book.apart 0 1 one (omega arith) (omega arith)).pages one_is other_is in_one.0 f in_one.1 in_other.0 f in_other.1
    (in_one.2 ∙ sym in_other.2)

module _ (one other : RegionRecord) where
  pub regions_that_meet_are_not_apart : one.pooled ≡ true → other.pooled ≡ true → one.first < other.first + other.size →
      other.first < one.first + one.size → IsApart one other → ⊥
  regions_that_meet_are_not_apart one_is other_is before behind is =
      elim (is.pool one_is other_is) [
        | inl first ↦ omega (arith, first, behind)
        | inr second ↦ omega (arith, second, before)
      ]

module _ (next : ℕ) (r : RegionRecord) where
  pub declared_region_has_no_frame_twice : (i j : ℕ) → r.pooled ≡ false → i < j → j < length r.frames →
      slice_index r.frames i ≡ slice_index r.frames j → IsRegion next r → ⊥
  declared_region_has_no_frame_twice i j declared low below same is = (is.declared declared).2 i j 0 low below same

  pub declared_region_has_no_frame_of_the_pool : (f : ℕ) → r.pooled ≡ false → 10 ≤ f → f < 26 → Contains r.frames f →
      IsRegion next r → ⊥
  declared_region_has_no_frame_of_the_pool f declared least most there is =
      elim ((is.declared declared).3 there.0 f there.1) [
        | inl before ↦ omega (arith, before, there.2, least)
        | inr behind ↦ omega (arith, behind, there.2, most)
      ]

  pub region_of_the_pool_passes_no_end : r.pooled ≡ true → pool_start + 65536 < r.first + r.size → IsRegion next r → ⊥
  region_of_the_pool_passes_no_end pooled past is = omega (arith, (is.pooled pooled).1, past)

  pub region_of_the_pool_begins_no_byte_below_it : r.pooled ≡ true → r.first + 1 ≡ pool_start → IsRegion next r → ⊥
  region_of_the_pool_begins_no_byte_below_it pooled below is = omega (arith, (is.pooled pooled).0, below)

  pub region_of_the_pool_has_no_65537th_byte : r.pooled ≡ true → r.first ≡ pool_start + 65535 → r.size ≡ 2 →
      IsRegion next r → ⊥
  region_of_the_pool_has_no_65537th_byte pooled last two is = omega (arith, (is.pooled pooled).1, last, two)

  pub region_of_the_pool_has_no_other_place : r.pooled ≡ true → r.first ≡ pool_start + 4096 → r.place ≡ 1 →
      IsRegion next r → ⊥
  region_of_the_pool_has_no_other_place pooled second one is =
      let place = (is.pooled pooled).2 in omega (arith, place, second, one)

  pub declared_region_begins_with_its_frame : r.pooled ≡ false → r.place ≡ 1 → IsRegion next r → ⊥
  declared_region_begins_with_its_frame declared one is = let zero = (is.declared declared).0 in omega (arith, one, zero)

  pub declared_region_has_no_part_of_a_frame : r.pooled ≡ false → r.size ≡ 4095 → IsRegion next r → ⊥
  declared_region_has_no_part_of_a_frame declared size is =
      let whole = (is.declared declared).1 in omega (arith, size, whole)

  pub declared_region_has_no_frame_behind_its_bytes : r.pooled ≡ false → r.size ≡ 4096 → length r.frames ≡ 2 →
      IsRegion next r → ⊥
  declared_region_has_no_frame_behind_its_bytes declared size two is =
      let whole = (is.declared declared).1 in omega (arith, size, two, whole)

-- sixteen bytes at the beginning of the pool, in these frames
abbrev first_of_the_pool : List ℕ → RegionRecord
first_of_the_pool frames = record {
  id = 256;
  policy = 1;
  pooled = true;
  first = pool_start;
  size = 16;
  frames = frames;
  place = 0;
  written = replicate 16 false;
  tail = 0;
}

pub region_of_the_pool_lies_in_no_other_frame : IsRegion 257 (first_of_the_pool (11 ∷ [])) → ⊥
region_of_the_pool_lies_in_no_other_frame is =
    let no : 11 ≡ 10 = ap (λ (frames : List ℕ). slice_index frames 0) (is.pooled refl).3 in omega (arith, no)

pub region_of_the_pool_has_no_frame_behind_its_bytes : IsRegion 257 (first_of_the_pool (10 ∷ 11 ∷ [])) → ⊥
region_of_the_pool_has_no_frame_behind_its_bytes is =
    let no : 2 ≡ 1 = ap (λ (frames : List ℕ). length frames) (is.pooled refl).3 in omega (arith, no)

pub no_129_pages_are_declared : (book : Book) → sum_by pages_of_region book.regions ≡ 129 → IsBook book → ⊥
no_129_pages_are_declared book pages is = omega (arith, pages, is.pages, is.most)

pub two_regions_have_no_identifier_in_common : (one other : RegionRecord) (next declared : ℕ) → one.id ≡ other.id →
    IsBook (record { regions = one ∷ other ∷ []; next = next; declared = declared }) → ⊥
two_regions_have_no_identifier_in_common one other next declared same book =
    let less : one.id < other.id = book.rising 0 1 one (omega arith) (omega arith) in omega (arith, same, less)

pub next_identifier_is_not_255 : IsBook (record { regions = []; next = 255; declared = 0 }) → ⊥
next_identifier_is_not_255 book = let least = book.next in omega (arith, least)

pub no_257_regions_live : (book : Book) → length book.regions ≡ 257 → IsBook book → ⊥
no_257_regions_live book many is = omega (arith, many, is.count)

pub what_is_no_region_stands_in_no_book : (r : RegionRecord) (declared : ℕ) → r.policy ≡ 5 →
    IsBook (record { regions = r ∷ []; next = 257; declared = declared }) → ⊥
what_is_no_region_stands_in_no_book r declared five book =
    let most = (book.each 0 r (omega arith)).policy.1 in omega (arith, five, most)

module _ (next : ℕ) (r : RegionRecord) (is : IsRegion next r) where
  pub identifier_255_is_no_region's : r.id ≡ 255 → ⊥
  identifier_255_is_no_region's low = let least = is.least in omega (arith, low, least)

  pub no_region_is_empty : r.size ≡ 0 → ⊥
  no_region_is_empty none = let some = is.size.0 in omega (arith, none, some)

  pub no_region_has_65537_bytes : r.size ≡ 65537 → ⊥
  no_region_has_65537_bytes many = let most = is.size.1 in omega (arith, many, most)

  pub one_frame_holds_no_4097_bytes : r.place ≡ 0 → r.size ≡ 4097 → length r.frames ≡ 1 → ⊥
  one_frame_holds_no_4097_bytes first size frames = let held = is.held in omega (arith, first, size, frames, held)

  pub policy_0_is_no_region's : r.policy ≡ 0 → ⊥
  policy_0_is_no_region's zero = let least = is.policy.0 in omega (arith, zero, least)

  pub identifier_to_come_is_no_region's : r.id ≡ next → ⊥
  identifier_to_come_is_no_region's same = let below = is.below in omega (arith, same, below)

  pub policy_5_is_no_region's : r.policy ≡ 5 → ⊥
  policy_5_is_no_region's five = let most = is.policy.1 in omega (arith, five, most)

  pub each_byte_has_its_mark : length r.written ≡ r.size + 1 → ⊥
  each_byte_has_its_mark more = let marks = is.written in omega (arith, more, marks)

  pub tail_passes_no_end : r.tail ≡ r.size + 1 → ⊥
  tail_passes_no_end past = let most = is.tail in omega (arith, past, most)
