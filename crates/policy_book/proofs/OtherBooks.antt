-- What a write leaves: the bytes of all other regions, and the frames of the log.
use Rattle.std.proofs.Common.{◌≡◌, ◌≢◌, ℕ, ◌+◌, ◌/◌, ◌<◌, ◌≤◌, ◌&&◌, true, false, List, length, arith, refl, ap, ◌∙◌}
use Rattle.std.specs.Prelude.{IfSome, None, Option, Some}
use Rattle.std.proofs.lemmas.Bool.{and_parts, le-leb, leb-true, lt-ltb}
use Rattle.phys_mem.specs.MaskedMemory.{is_book_frame}
use Rattle.phys_mem.specs.Memory.{byte_at, stored}
use Rattle.region_book.specs.RegionCalls.{fits_region}
use Rattle.region_book.specs.RegionRecords.{Book, IsBook, RegionRecord, byte_place, region_of, region_stores}
use Rattle.policy_book.specs.PolicyRules.{stores_by, stores_written}

-- the frames of the log are the books'
pub log_place : (frames p : ℕ) → 0x1A000 ≤ p → p < 0x2A000 → is_book_frame frames (p / 4096) ≡ true
unfolding is_book_frame
log_place frames p low high =
    let least : 26 ≤ p / 4096 = omega (arith, low) in
    let most : p / 4096 < 64 + (frames + 255) / 256 = omega (arith, high) in
    λ i. le-leb 26 (p / 4096) least i && lt-ltb (p / 4096) (64 + (frames + 255) / 256) most i

-- the law on bytes of other regions
abbrev pub Stays : Type 0
Stays = (book : Book) (id other offset b : ℕ) (r q : RegionRecord) (m bytes : List ℕ) → IsBook book → id ≢ other
    → region_of book id ≡ Some r → region_of book other ≡ Some q → offset + length bytes ≤ r.size → b < q.size
    → byte_at (stored m (region_stores r offset bytes)) (byte_place q b) ≡ byte_at m (byte_place q b)

pub others_stay : Stays → (book : Book) (id offset : ℕ) (m later bytes : List ℕ) → IsBook book
    → fits_region (region_of book id) offset (length bytes) ≡ true → later ≡ stored m (stores_written book id offset bytes)
    → (other b : ℕ) → id ≢ other
    → IfSome (region_of book other) (λ q. b < q.size → byte_at later (byte_place q b) ≡ byte_at m (byte_place q b))
others_stay law book id offset m later bytes sound fits is other b apart =
    go (region_of book id) (region_of book other) refl refl fits is
  where
    go : (o p : Option RegionRecord) → region_of book id ≡ o → region_of book other ≡ p → fits_region o offset (length bytes) ≡ true
        → later ≡ stored m (stores_by o offset bytes)
        → IfSome p (λ q. b < q.size → byte_at later (byte_place q b) ≡ byte_at m (byte_place q b))
    go o None one two fits is = tt
    go None (Some q) one two fits is = let no : false ≡ true = fits in cc
    go (Some r) (Some q) one two fits is = λ small.
        ap (λ l. byte_at l (byte_place q b)) is
        ∙ law book id other offset b r q m bytes sound apart one two (leb-true (offset + length bytes) r.size (and_parts _ _ fits).1) small
