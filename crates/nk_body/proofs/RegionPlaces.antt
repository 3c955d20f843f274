-- Where the bytes of regions stand.
use Rattle.std.proofs.Common.{◌≡◌, ◌≢◌, ℕ, ◌+◌, ◌-◌, ◌/◌, ◌<◌, ◌≤◌, true, false, List, [], ◌∷◌, length, All, inl, inr, ap, ◌∙◌, arith}
use Rattle.std.specs.Prelude.{◌==◌, Some, slice_index}
use Rattle.std.proofs.lemmas.Bool.{cases_lt, eq-eqb, eqb-true, ne_eqb, or_left, or_right}
use Rattle.std.proofs.lemmas.List.Elements.{All-cons, All-nil}
use Rattle.std.proofs.lemmas.List.Folds.{list_any_none}
use Rattle.std.proofs.lemmas.List.FromFn.{get_or-range_with_len}
use Rattle.nk_bits.specs.KernelLayout.{pool_start}
use Rattle.region_book.specs.RegionRecords.{Book, IsRegion, RegionRecord, byte_place, region_of, region_stores}
use Rattle.nk_body.specs.ReplayBeside.{frame_at}
use Rattle.nk_body.proofs.HeldPuts.{hits}
use Rattle.nk_body.proofs.RegionFrames.{found_place}

-- the region of an identifier has it
pub found_id : (book : Book) (id : ℕ) (r : RegionRecord) → region_of book id ≡ Some r → r.id ≡ id
found_id book id r found = eqb-true r.id id (found_place (λ x. x.id == id) book.regions r found).3

-- the frame of each byte of a region is one of its frames
pub frame_holds : (P : ℕ → Type 0) (next : ℕ) (r : RegionRecord) → IsRegion next r → All P r.frames → (at : ℕ) → at < r.size
    → P (frame_at r at)
frame_holds P next r is all at inside = all ((r.place + at) / 4096) 0 (omega (arith, is.held, inside))

-- that of a byte of the pool is one of the pool's
pub frame_pooled : (next : ℕ) (r : RegionRecord) → IsRegion next r → r.pooled ≡ true → (at : ℕ) → at < r.size
    → (10 ≤ frame_at r at) × (frame_at r at < 26)
frame_pooled next r is pooled at inside =
    let facts = is.pooled pooled in
    let p = r.first - pool_start in
    let i = (r.place + at) / 4096 in
    let within : i < (r.place + r.size + 4095) / 4096 = omega (arith, inside) in
    let frame : frame_at r at ≡ 10 + p / 4096 + i =
    ap (λ fs. slice_index fs i) facts.3 ∙ get_or-range_with_len (10 + p / 4096)
    ((r.place + r.size + 4095) / 4096) i 0 within in
    let fits : p + r.size ≤ 65536 = omega (arith, facts.0, facts.1) in
    (omega (arith, frame), omega (arith, frame, fits, facts.2, inside))

-- Stores in a region.

module _ (r : RegionRecord) where
  pub stores_all : (P : ℕ → Type 0) (offset : ℕ) (bytes : List ℕ)
      → ((k : ℕ) → offset ≤ k → k < offset + length bytes → P (byte_place r k))
      → All (λ w. P w.0) (region_stores r offset bytes)
  unfolding region_stores
  stores_all P offset [] each = All-nil (λ (w : ℕ × ℕ). P w.0)
  stores_all P offset (b ∷ bytes) each =
      All-cons (λ (w : ℕ × ℕ). P w.0) (byte_place r offset, b) (region_stores r (offset + 1) bytes)
      (each offset (omega arith) (omega arith))
      (stores_all P (offset + 1) bytes (λ k least most. each k (omega (arith, least)) (omega (arith, most))))

  pub stores_hit : (offset : ℕ) (bytes : List ℕ) (k : ℕ) → offset ≤ k → k < offset + length bytes
      → hits (byte_place r k) (region_stores r offset bytes) ≡ true
  unfolding region_stores
  stores_hit offset [] k least most = absurd (omega (arith, least, most))
  stores_hit offset (b ∷ bytes) k least most = elim (cases_lt offset k) [
    | inl later ↦
        or_right (byte_place r offset == byte_place r k) (hits (byte_place r k) (region_stores r (offset + 1) bytes))
        (stores_hit (offset + 1) bytes k (omega (arith, later)) (omega (arith, most)))
    | inr here ↦
        let at : offset ≡ k = omega (arith, here, least) in
        or_left (byte_place r offset == byte_place r k) (hits (byte_place r k) (region_stores r (offset + 1) bytes))
        (eq-eqb (byte_place r offset) (byte_place r k) (ap (byte_place r) at))
  ]

  pub stores_miss : (place offset : ℕ) (bytes : List ℕ)
      → ((k : ℕ) → offset ≤ k → k < offset + length bytes → byte_place r k ≢ place)
      → hits place (region_stores r offset bytes) ≡ false
  stores_miss place offset bytes apart =
      list_any_none (λ w. w.0 == place) (region_stores r offset bytes)
      (stores_all (λ p. (p == place) ≡ false) offset bytes
      (λ k least most. ne_eqb (byte_place r k) place (apart k least most)))
