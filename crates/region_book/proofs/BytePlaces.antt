-- Bytes of live regions stand apart: within one region, and in two.
use Rattle.std.proofs.Common.{◌≡◌, ◌≢◌, ◌⊎◌, ℕ, ◌+◌, ◌-◌, ◌/◌, ◌%◌, ◌<◌, ◌≤◌, true, false, ◌==◌, List, [], ◌∷◌, length, arith, refl, sym, ap, ◌∙◌, subst, inl, inr, slice_index, slice_index_or}
use Rattle.std.specs.Prelude.{All, Some}
use Rattle.std.proofs.lemmas.Bool.{cases_Bool, cases_order, eq-eqb, eqb-true, ne_eqb}
use Rattle.std.proofs.lemmas.List.Elements.{All-cons, All-nil}
use Rattle.std.proofs.lemmas.List.FromFn.{get_or-range_with_len}
use Rattle.phys_mem.specs.Memory.{byte_at, stored}
use Rattle.nk_bits.specs.KernelLayout.{pool_start}
use Rattle.region_book.specs.RegionRecords.{Book, IsApart, IsBook, IsEachOnce, IsRegion, RegionRecord, byte_place, region_of, region_stores}
use Rattle.region_book.proofs.Found.{find_at, found_place}
use Rattle.region_book.proofs.RegionReads.{region_sound}

-- a frame stands at one place of a list that has each once
same_index : (frames : List ℕ) (i j : ℕ) → IsEachOnce frames → i < length frames → j < length frames →
    slice_index frames i ≡ slice_index frames j → i ≡ j
same_index frames i j once i_below j_below same = elim (cases_order i j) [
  | inl is ↦ is
  | inr apart ↦ elim apart [
    | inl low ↦ absurd (once i j 0 low j_below same)
    | inr high ↦ absurd (once j i 0 high i_below (sym same))
  ]
]

module _ (next : ℕ) (r : RegionRecord) (is : IsRegion next r) where
  -- the bytes of a region of the pool follow one another, in frames 10 to 25
  pooled_place : r.pooled ≡ true → (a : ℕ) → a < r.size → byte_place r a ≡ 40960 + (r.first - pool_start) + a
  pooled_place pooled a within =
      let facts = is.pooled pooled in
      let p = r.first - pool_start in
      let i = (r.place + a) / 4096 in
      let inside : i < (r.place + r.size + 4095) / 4096 = omega (arith, within) in
      let frame : slice_index r.frames i ≡ 10 + p / 4096 + i = ap (λ frames. slice_index frames i) facts.3
      ∙ get_or-range_with_len (10 + p / 4096) ((r.place + r.size + 4095) / 4096) i 0 inside in
      omega (arith, frame, facts.2)

  pooled_within : r.pooled ≡ true → (a : ℕ) → a < r.size → (40960 ≤ byte_place r a) × (byte_place r a < 106496)
  pooled_within pooled a within =
      let facts = is.pooled pooled in
      let place = pooled_place pooled a within in (omega (arith, place), omega (arith, place, facts.0, facts.1, within))

  frame_within : (a : ℕ) → a < r.size → (r.place + a) / 4096 < length r.frames
  frame_within a within = omega (arith, is.held, within)

  -- those of a declared one stand aside of them
  declared_aside : r.pooled ≡ false → (a : ℕ) → a < r.size → (byte_place r a < 40960) ⊎ (106496 ≤ byte_place r a)
  declared_aside declared a within =
      let facts = is.declared declared in
      elim (facts.3 ((r.place + a) / 4096) 0 (frame_within a within)) [
        | inl before ↦ inl (omega (arith, before))
        | inr behind ↦ inr (omega (arith, behind))
      ]

  pub same_byte : (a b : ℕ) → a < r.size → b < r.size → byte_place r a ≡ byte_place r b → a ≡ b
  same_byte a b a_within b_within same = elim (cases_Bool r.pooled) [
    | inl pooled ↦ omega (arith, pooled_place pooled a a_within, pooled_place pooled b b_within, same)
    | inr declared ↦
        let frames : slice_index r.frames ((r.place + a) / 4096) ≡ slice_index r.frames ((r.place + b) / 4096)
        = omega (arith, same) in
        let places : (r.place + a) % 4096 ≡ (r.place + b) % 4096 = omega (arith, same) in
        let index = same_index r.frames ((r.place + a) / 4096) ((r.place + b) / 4096) (is.declared declared).2
        (frame_within a a_within) (frame_within b b_within) frames in
        omega (arith, index, places)
  ]

module _ (next : ℕ) (r q : RegionRecord) (is : IsRegion next r) (other : IsRegion next q) (apart : IsApart r q)
    (a b : ℕ) (within : a < r.size) (inside : b < q.size) where
  pub bytes_apart : byte_place r a ≢ byte_place q b
  bytes_apart same = elim (cases_Bool r.pooled) [
    | inl pooled ↦ elim (cases_Bool q.pooled) [
      | inl q_pooled ↦
          let firsts = (is.pooled pooled).0 in
          let q_firsts = (other.pooled q_pooled).0 in
          let place = pooled_place next r is pooled a within in
          let q_place = pooled_place next q other q_pooled b inside in
          elim (apart.pool pooled q_pooled) [
            | inl before ↦ omega (arith, same, place, q_place, firsts, q_firsts, before, within)
            | inr behind ↦ omega (arith, same, place, q_place, firsts, q_firsts, behind, inside)
          ]
      | inr declared ↦ aside (pooled_within next r is pooled a within) (declared_aside next q other declared b inside)
          same
    ]
    | inr declared ↦ elim (cases_Bool q.pooled) [
      | inl q_pooled ↦ aside (pooled_within next q other q_pooled b inside)
          (declared_aside next r is declared a within) (sym same)
      | inr q_declared ↦
          apart.pages declared q_declared ((r.place + a) / 4096) 0 (frame_within next r is a within)
          ((q.place + b) / 4096) 0 (frame_within next q other b inside) (omega (arith, same))
    ]
  ]
    where
      aside : {x y : ℕ} → (40960 ≤ x) × (x < 106496) → (y < 40960) ⊎ (106496 ≤ y) → x ≢ y
      aside pool out same = elim out [
        | inl before ↦ omega (arith, pool.0, before, same)
        | inr behind ↦ omega (arith, pool.1, behind, same)
      ]

-- a store of a region's bytes is at one of its places
stores_at : (P : ℕ → Type 0) (r : RegionRecord) (offset : ℕ) (bytes : List ℕ) →
    ((k : ℕ) → offset ≤ k → k < offset + length bytes → P (byte_place r k)) →
    All (λ w. P w.0) (region_stores r offset bytes)
unfolding region_stores
stores_at P r offset [] each = All-nil (λ (w : ℕ × ℕ). P w.0)
stores_at P r offset (b ∷ bytes) each =
    All-cons (λ (w : ℕ × ℕ). P w.0) (byte_place r offset, b) (region_stores r (offset + 1) bytes)
    (each offset (omega arith) (omega arith))
    (stores_at P r (offset + 1) bytes (λ k least most. each k (omega (arith, least)) (omega (arith, most))))

module _ (book : Book) (sound : IsBook book) where
  -- a region of the list is the first of its identifier
  pub listed_region : (k : ℕ) (d : RegionRecord) → k < length book.regions →
      region_of book (slice_index_or book.regions k d).id ≡ Some (slice_index_or book.regions k d)
  listed_region k d below =
      let id : ℕ = (slice_index_or book.regions k d).id in
      find_at (λ x. x.id == id) book.regions k d below
      (λ i before. ne_eqb _ id (λ same. omega (arith, sound.rising i k d before below, same)))
      (eq-eqb id id refl)

  pub one_region : (id : ℕ) (r : RegionRecord) → region_of book id ≡ Some r → (a b : ℕ) → a < r.size → b < r.size → a ≢ b →
      byte_place r a ≢ byte_place r b
  one_region id r found a b a_within b_within apart same =
      apart (same_byte book.next r (region_sound book id r sound found) a b a_within b_within same)

  module _ (one other : ℕ) (r q : RegionRecord) (differ : one ≢ other) (found : region_of book one ≡ Some r)
      (q_found : region_of book other ≡ Some q) where
    regions_apart : (IsApart r q) ⊎ (IsApart q r)
    regions_apart =
        let at = found_place (λ x. x.id == one) book.regions r found in
        let q_at = found_place (λ x. x.id == other) book.regions q q_found in
        elim (cases_order at.0 q_at.0) [
          | inl same ↦
              let regions : r ≡ q = sym (at.2 r) ∙ ap (λ k. slice_index_or book.regions k r) same ∙ q_at.2 r in
              absurd (differ (sym (eqb-true r.id one at.3) ∙ ap (λ x. x.id) regions ∙ eqb-true q.id other q_at.3))
          | inr order ↦ elim order [
            | inl low ↦ inl (subst (λ x. IsApart x q) (at.2 q)
                (subst (IsApart (slice_index_or book.regions at.0 q)) (q_at.2 q) (sound.apart at.0 q_at.0 q low q_at.1)))
            | inr high ↦ inr (subst (λ x. IsApart x r) (q_at.2 r)
                (subst (IsApart (slice_index_or book.regions q_at.0 r)) (at.2 r) (sound.apart q_at.0 at.0 r high at.1)))
          ]
        ]

    pub two_regions : (a b : ℕ) → a < r.size → b < q.size → byte_place r a ≢ byte_place q b
    two_regions a b within inside same =
        let is = region_sound book one r sound found in
        let q_is = region_sound book other q sound q_found in
        elim regions_apart [
          | inl apart ↦ bytes_apart book.next r q is q_is apart a b within inside same
          | inr apart ↦ bytes_apart book.next q r q_is is apart b a inside within (sym same)
        ]

    -- stores in one of them leave the bytes of the other
    pub others_stay : ((m : List ℕ) (ws : List (ℕ × ℕ)) (p : ℕ) → All (λ w. w.0 ≢ p) ws →
        byte_at (stored m ws) p ≡ byte_at m p) →
        (m bytes : List ℕ) (offset b : ℕ) → offset + length bytes ≤ r.size → b < q.size →
        byte_at (stored m (region_stores r offset bytes)) (byte_place q b) ≡ byte_at m (byte_place q b)
    others_stay elsewhere m bytes offset b fits inside =
        elsewhere m (region_stores r offset bytes) (byte_place q b)
        (stores_at (λ p. p ≢ byte_place q b) r offset bytes
        (λ k least most. two_regions k b (omega (arith, most, fits)) inside))
