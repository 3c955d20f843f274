-- A new region of pages: its row, and that a sound book may have it.
use Rattle.std.proofs.Common.{◌≡◌, ◌⊎◌, ℕ, ◌+◌, ◌*◌, ◌/◌, ◌<◌, ◌≤◌, true, false, List, length, take, arith, refl, sym, ap, ◌∙◌, inl, inr, slice_index_or}
use Rattle.std.specs.Prelude.{All}
use Rattle.std.proofs.lemmas.Bool.{cases_lt, false≢true}
use Rattle.std.proofs.lemmas.List.{length-replicate}
use Rattle.nk_bits.specs.declared.kind.Kind.{Kind}
use Rattle.nk_bits.specs.Kinds.{is_data, kind_of}
use Rattle.region_book.specs.RegionCalls.{with_one_more, page_region}
use Rattle.region_book.specs.RegionRecords.{Book, IsApart, IsBook, IsEachOnce, IsRegion}
use Rattle.region_book.specs.RegionRows.{frames_of_row, region_of_row, place_of_row}
use Rattle.region_book.proofs.SoundBooks.{added_sound}

-- its row
pub page_row_is : (now : Book) (next va size policy slot count : ℕ) (frames : List ℕ) → next ≡ now.next →
    size ≡ 4096 * count →
    region_of_row (record { id = next; first = va; size = size; tail = 0; policy = policy; pooled = false; slot = slot; frames = frames }) ≡ page_region now va size policy (take count frames)
unfolding frames_of_row place_of_row
page_row_is now next va size policy slot count frames next_is size_is =
    let pages : size / 4096 ≡ count = omega (arith, size_is) in
    ap (λ id. region_of_row (record { id = id; first = va; size = size; tail = 0; policy = policy; pooled = false; slot = slot; frames = frames })) next_is
    ∙ ap (λ n. page_region now va size policy (take n frames)) pages

-- the frames of the range hold data, and those of the pool and of the regions don't
module _ (now : Book) (sound : IsBook now) (va size policy : ℕ) (fs : List ℕ) (some : 1 ≤ size) (small : size ≤ 65536)
    (low : 1 ≤ policy) (high : policy ≤ 4) (size_is : size ≡ 4096 * length fs) (once : IsEachOnce fs) (kinds : List Kind)
    (free : All (λ f. is_data (kind_of kinds f) ≡ true) fs)
    (pool : (f : ℕ) → 10 ≤ f → f < 26 → is_data (kind_of kinds f) ≡ false) where
  aside : All (λ f. (f < 10) ⊎ (26 ≤ f)) fs
  aside k d below =
      let f : ℕ = slice_index_or fs k d in
      elim (cases_lt f 10) [
        | inl before ↦ inl before
        | inr from ↦ elim (cases_lt f 26) [
          | inl within ↦ absurd (false≢true (sym (pool f from within) ∙ free k d below))
          | inr behind ↦ inr behind
        ]
      ]

  page_is_region : IsRegion (now.next + 1) (page_region now va size policy fs)
  page_is_region = record {
    least = sound.next;
    below = omega arith;
    policy = (low, high);
    size = (some, small);
    written = length-replicate size false;
    tail = omega arith;
    held = omega (arith, size_is);
    pooled = λ e. absurd (false≢true e);
    declared = λ e. (refl, size_is, once, aside);
  }

  apart : All (λ r. All (λ f. is_data (kind_of kinds f) ≡ false) r.frames) now.regions →
      All (λ old. IsApart old (page_region now va size policy fs)) now.regions
  apart others k d below = record {
    pool = λ old_pooled pooled. absurd (false≢true pooled);
    pages = λ old_declared declared i e i_below j h j_below same.
        false≢true (sym (others k d below i e i_below) ∙ ap (λ f. is_data (kind_of kinds f)) same ∙ free j h j_below);
  }

  pub page_added : length now.regions < 256 → now.declared + length fs ≤ 128 →
      All (λ r. All (λ f. is_data (kind_of kinds f) ≡ false) r.frames) now.regions →
      IsBook (with_one_more now (page_region now va size policy fs) (length fs))
  page_added few most others =
      added_sound now sound (page_region now va size policy fs) (length fs) few refl page_is_region
      (apart others) refl most
