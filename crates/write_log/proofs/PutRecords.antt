-- A record that is put stands there, and all other bytes stay.
use Rattle.std.proofs.Common.{◌≡◌, ◌≢◌, ◌⊎◌, ℕ, ◌+◌, ◌%◌, ◌^◌, ◌<◌, ◌≤◌, List, length, All, arith, ◌∙◌, inl, inr}
use Rattle.std.proofs.lemmas.List.Elements.{All-weaker}
use Rattle.phys_mem.specs.Memory.{byte_at, number_at, stored, stores}
use Rattle.phys_mem.specs.MemoryLaws.{MemoryLaws}
use Rattle.write_log.specs.RecordStores.{IsPut, byte_stores}
use Rattle.write_log.proofs.RecordBytes.{byte_places, byte_stored, run_is}

module _ (laws : MemoryLaws) where
  -- stores behind a number leave it
  behind : (m : List ℕ) (ws : List (ℕ × ℕ)) (p size n q : ℕ) → All (λ w. (p ≤ w.0) × (w.0 < p + size)) ws → q + n ≤ p
      → number_at (stored m ws) n q ≡ number_at m n q
  behind m ws p size n q within apart =
      laws.number_elsewhere m ws n q
      (All-weaker (λ w. (p ≤ w.0) × (w.0 < p + size)) (λ w. (w.0 < q) ⊎ (q + n ≤ w.0))
      (λ w h. inr (omega (arith, h.0, apart))) ws within)

  -- stores leave bytes before and behind them
  outside : (m : List ℕ) (ws : List (ℕ × ℕ)) (p size q : ℕ) → All (λ w. (p ≤ w.0) × (w.0 < p + size)) ws → (q < p) ⊎ (p + size ≤ q)
      → byte_at (stored m ws) q ≡ byte_at m q
  outside m ws p size q within apart =
      laws.byte_elsewhere m ws q
      (All-weaker (λ w. (p ≤ w.0) × (w.0 < p + size)) (λ w. w.0 ≢ q)
      (λ w h e. elim apart [ inl low ↦ omega (arith, h.0, low, e) | inr high ↦ omega (arith, h.1, high, e) ]) ws within)

  module _ (m : List ℕ) (at number region offset count : ℕ) where
    abbrev one : List ℕ
    one = stored m (stores 8 at number)

    abbrev two : List ℕ
    two = stored one (stores 8 (at + 8) region)

    abbrev three : List ℕ
    three = stored two (stores 4 (at + 16) offset)

    abbrev four : List ℕ
    four = stored three (stores 4 (at + 20) count)

    head_length : length four ≡ length m
    head_length =
        laws.length three (stores 4 (at + 20) count) ∙ laws.length two (stores 4 (at + 16) offset)
        ∙ laws.length one (stores 8 (at + 8) region) ∙ laws.length m (stores 8 at number)

    head_number : at + 24 ≤ length m → number < 2 ^ 64 → number_at four 8 at ≡ number
    head_number fits small =
        let put : number_at one 8 at ≡ number % 256 ^ 8 = laws.number_stored m 8 at number (omega (arith, fits)) in
        behind three (stores 4 (at + 20) count) (at + 20) 4 8 at (laws.places 4 (at + 20) count) (omega arith)
        ∙ behind two (stores 4 (at + 16) offset) (at + 16) 4 8 at (laws.places 4 (at + 16) offset) (omega arith)
        ∙ behind one (stores 8 (at + 8) region) (at + 8) 8 8 at (laws.places 8 (at + 8) region) (omega arith)
        ∙ omega (arith, put, small)

    head_region : at + 24 ≤ length m → region < 2 ^ 64 → number_at four 8 (at + 8) ≡ region
    head_region fits small =
        let put : number_at two 8 (at + 8) ≡ region % 256 ^ 8 =
        laws.number_stored one 8 (at + 8) region (omega (arith, fits, laws.length m (stores 8 at number))) in
        behind three (stores 4 (at + 20) count) (at + 20) 4 8 (at + 8) (laws.places 4 (at + 20) count) (omega arith)
        ∙ behind two (stores 4 (at + 16) offset) (at + 16) 4 8 (at + 8) (laws.places 4 (at + 16) offset) (omega arith)
        ∙ omega (arith, put, small)

    head_offset : at + 24 ≤ length m → offset < 2 ^ 32 → number_at four 4 (at + 16) ≡ offset
    head_offset fits small =
        let put : number_at three 4 (at + 16) ≡ offset % 256 ^ 4 =
        laws.number_stored two 4 (at + 16) offset
        (omega (arith, fits, laws.length m (stores 8 at number), laws.length one (stores 8 (at + 8) region))) in
        behind three (stores 4 (at + 20) count) (at + 20) 4 4 (at + 16) (laws.places 4 (at + 20) count) (omega arith)
        ∙ omega (arith, put, small)

    head_count : at + 24 ≤ length m → count < 2 ^ 32 → number_at four 4 (at + 20) ≡ count
    head_count fits small =
        let put : number_at four 4 (at + 20) ≡ count % 256 ^ 4 =
        laws.number_stored three 4 (at + 20) count
        (omega (arith, fits, laws.length m (stores 8 at number), laws.length one (stores 8 (at + 8) region), laws.length two (stores 4 (at + 16) offset))) in
        omega (arith, put, small)

    head_elsewhere : (q : ℕ) → (q < at) ⊎ (at + 24 ≤ q) → byte_at four q ≡ byte_at m q
    head_elsewhere q apart =
        outside three (stores 4 (at + 20) count) (at + 20) 4 q (laws.places 4 (at + 20) count)
        (elim apart [ inl low ↦ inl (omega (arith, low)) | inr high ↦ inr (omega (arith, high)) ])
        ∙ outside two (stores 4 (at + 16) offset) (at + 16) 4 q (laws.places 4 (at + 16) offset)
        (elim apart [ inl low ↦ inl (omega (arith, low)) | inr high ↦ inr (omega (arith, high)) ])
        ∙ outside one (stores 8 (at + 8) region) (at + 8) 8 q (laws.places 8 (at + 8) region)
        (elim apart [ inl low ↦ inl (omega (arith, low)) | inr high ↦ inr (omega (arith, high)) ])
        ∙ outside m (stores 8 at number) at 8 q (laws.places 8 at number)
        (elim apart [ inl low ↦ inl (omega (arith, low)) | inr high ↦ inr (omega (arith, high)) ])

  module _ (m : List ℕ) (at number region offset : ℕ) (bytes : List ℕ) (fits : at + 24 + length bytes ≤ length m) where
    abbrev head : List ℕ
    head = four m at number region offset (length bytes)

    abbrev after : List ℕ
    after = stored head (byte_stores (at + 24) bytes)

    number_behind : (n q : ℕ) → q + n ≤ at + 24 → number_at after n q ≡ number_at head n q
    number_behind n q apart = behind head (byte_stores (at + 24) bytes) (at + 24) (length bytes) n q (byte_places (at + 24) bytes) apart

    bytes_fit : at + 24 + length bytes ≤ length head
    bytes_fit = omega (arith, fits, head_length m at number region offset (length bytes))

    pub is_put : number < 2 ^ 64 → region < 2 ^ 64 → offset < 2 ^ 32 → length bytes < 2 ^ 32
        → IsPut at number (record { region = region; offset = offset; bytes = bytes }) m after
    is_put number_small region_small offset_small count_small = record {
      size = laws.length head (byte_stores (at + 24) bytes) ∙ head_length m at number region offset (length bytes);
      number = number_behind 8 at (omega arith)
          ∙ head_number m at number region offset (length bytes) (omega (arith, fits)) number_small;
      region = number_behind 8 (at + 8) (omega arith)
          ∙ head_region m at number region offset (length bytes) (omega (arith, fits)) region_small;
      offset = number_behind 4 (at + 16) (omega arith)
          ∙ head_offset m at number region offset (length bytes) (omega (arith, fits)) offset_small;
      count = number_behind 4 (at + 20) (omega arith)
          ∙ head_count m at number region offset (length bytes) (omega (arith, fits)) count_small;
      bytes = run_is after (at + 24) bytes
          (omega (arith, bytes_fit, laws.length head (byte_stores (at + 24) bytes)))
          (λ k small. byte_stored laws.byte_elsewhere head (at + 24) bytes k bytes_fit small);
      elsewhere = λ p apart.
          outside head (byte_stores (at + 24) bytes) (at + 24) (length bytes) p (byte_places (at + 24) bytes)
          (elim apart [ inl low ↦ inl (omega (arith, low)) | inr high ↦ inr high ])
          ∙ head_elsewhere m at number region offset (length bytes) p
          (elim apart [ inl low ↦ inl low | inr high ↦ inr (omega (arith, high)) ]);
    }
