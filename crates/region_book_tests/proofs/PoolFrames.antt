-- The frames of a sound region of the pool are in a memory that has all of the pool's.
use Rattle.std.proofs.Common.{◌≡◌, ℕ, ◌+◌, ◌-◌, ◌*◌, ◌/◌, ◌%◌, suc, ◌<◌, ◌≤◌, Bool, true, false, ◌&&◌, nat_lt, List, [], ◌∷◌, arith, refl, sym, ap, ◌∙◌, subst}
use Rattle.std.specs.Prelude.{◌==◌, All, cond, IfSome, Option, Some, None, option_map}
use Rattle.std.specs.List.{find, range_with_len}
use Rattle.std.proofs.lemmas.List.FromFn.{get_or-range_with_len, length-range_with_len}
use Rattle.std.proofs.lemmas.Bool.{lt-leb}
use Rattle.std.proofs.lemmas.List.Elements.{All-weaker}
use Rattle.std.proofs.lemmas.Option.{same_Some}
use Rattle.phys_mem.specs.MaskedMemory.{is_book_frame}
use Rattle.region_book.specs.declared.regions.Region.{Region}
use Rattle.nk_bits.specs.KernelLayout.{pool_start}
use Rattle.region_book.specs.RegionRecords.{Book, IsBook, IsRegion, RegionRecord, region_of, shown_region}

-- what `IfSome` says of the value that is there
for_some : {X : Type 0} (o : Option X) (x : X) (P : X → Type 0) → o ≡ Some x → P x → IfSome o P
for_some o x P is holds = subst (λ o. IfSome o P) (sym is) holds

-- what holds of each element holds of the one that is found
found_holds : {X : Type 0} (p : X → Bool) (P : X → Type 0) (xs : List X) (x : X) → find p xs ≡ Some x → All P xs →
    P x
found_holds p P [] x found all = let no : None ≡ Some x = found in cc
found_holds p P (y ∷ xs) x found all =
    go (p y) found (λ later. found_holds p P xs x later (λ k d below. all (suc k) d (omega arith)))
  where
    go : (here : Bool) → cond here (Some y) (find p xs) ≡ Some x → (find p xs ≡ Some x → P x) → P x
    go true is later = subst P (same_Some y x is) (all 0 y (omega arith))
    go false is later = later is

-- a sound book's region is sound
region_sound : (now : Book) (id : ℕ) (r : RegionRecord) → IsBook now → region_of now id ≡ Some r → IsRegion now.next r
region_sound now id r book found = found_holds (λ r. r.id == id) (IsRegion now.next) now.regions r found book.each

-- so many frames from the one of a place of the pool on
run_within : (p size count memory : ℕ) → p + size ≤ 65536 → count ≡ (p % 4096 + size + 4095) / 4096 →
    4096 * 26 ≤ memory →
    All (λ f. 4096 * f + 4096 ≤ memory) (range_with_len (10 + p / 4096) count)
run_within p size count memory fits count_is most k d below =
    let short : k < count = omega (arith, below, length-range_with_len (10 + p / 4096) count) in
    omega (arith, get_or-range_with_len (10 + p / 4096) count k d short, short, fits, count_is, most)

pub pool_frames : (next memory : ℕ) (r : RegionRecord) → IsRegion next r → r.pooled ≡ true → 4096 * 26 ≤ memory →
    All (λ f. 4096 * f + 4096 ≤ memory) r.frames
pool_frames next memory r is pooled most =
    let place = is.pooled pooled in
    subst (All (λ f. 4096 * f + 4096 ≤ memory)) (sym place.3)
    (run_within (r.first - pool_start) r.size ((r.place + r.size + 4095) / 4096) memory
    (omega (arith, place.0, place.1)) (ap (λ q. (q + r.size + 4095) / 4096) place.2) most)

-- the region that is shown
region_shown : (o : Option RegionRecord) (s : Region) → option_map shown_region o ≡ Some s →
    (r : RegionRecord) × (o ≡ Some r) × (shown_region r ≡ s)
region_shown None s is = let no : None ≡ Some s = is in cc
region_shown (Some r) s is = (r, refl, same_Some (shown_region r) s is)

pub shown_frames : (now : Book) (id memory : ℕ) (s : Region) → IsBook now →
    option_map shown_region (region_of now id) ≡ Some s → s.pooled ≡ true → 4096 * 26 ≤ memory →
    IfSome (region_of now id) (λ r. All (λ f. 4096 * f + 4096 ≤ memory) r.frames)
shown_frames now id memory s book found pooled most =
    let live = region_shown (region_of now id) s found in
    for_some (region_of now id) live.0 (λ r. All (λ f. 4096 * f + 4096 ≤ memory) r.frames) live.1
    (pool_frames now.next memory live.0 (region_sound now id live.0 book live.1)
    (ap (λ (s : Region). s.pooled) live.2 ∙ pooled) most)

-- and they are no book frames
low_frame : (size f : ℕ) → 4096 * f + 4096 ≤ 4096 * 26 → is_book_frame size f ≡ false
unfolding is_book_frame
low_frame size f low = ap (λ b. b && nat_lt f (64 + (size + 255) / 256)) (lt-leb 26 f (omega (arith, low)))

pub shown_aside : (now : Book) (id size : ℕ) (s : Region) → IsBook now →
    option_map shown_region (region_of now id) ≡ Some s → s.pooled ≡ true →
    IfSome (region_of now id) (λ r. All (λ f. is_book_frame size f ≡ false) r.frames)
shown_aside now id size s book found pooled =
    let live = region_shown (region_of now id) s found in
    for_some (region_of now id) live.0 (λ r. All (λ f. is_book_frame size f ≡ false) r.frames) live.1
    (All-weaker (λ f. 4096 * f + 4096 ≤ 4096 * 26) (λ f. is_book_frame size f ≡ false) (low_frame size) live.0.frames
    (pool_frames now.next (4096 * 26) live.0 (region_sound now id live.0 book live.1)
    (ap (λ (s : Region). s.pooled) live.2 ∙ pooled) (omega arith)))
