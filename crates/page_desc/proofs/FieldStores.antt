-- The fields of descriptors after one of them is stored: there the value, and everywhere else what stood there.
use Rattle.std.proofs.Common.{◌≡◌, ◌≢◌, ◌⊎◌, ℕ, ◌+◌, ◌*◌, ◌%◌, ◌^◌, ◌<◌, ◌≤◌, List, length, arith, inl, inr}
use Rattle.std.proofs.lemmas.Bool.{cases_lt}
use Rattle.std.proofs.lemmas.List.Elements.{All-weaker}
use Rattle.phys_mem.specs.Memory.{byte_at, number_at, stored, stores}
use Rattle.phys_mem.specs.MemoryLaws.{MemoryLaws}
use Rattle.page_desc.specs.DescriptorBytes.{field_in}
use Rattle.page_desc.specs.FieldChanges.{DiffersInField}

-- what a store of one field leaves
pub record IsPut (frames at frame value : ℕ) (before after : List ℕ) : Type 0 where
  pub here : field_in after at frame ≡ value
  pub apart : (f : ℕ) → f ≢ frame → field_in after at f ≡ field_in before at f
  pub differs : DiffersInField frames at before after

module _ (laws : MemoryLaws) (m : List ℕ) (at frame value : ℕ) where
  abbrev after : List ℕ
  after = stored m (stores 4 (0x40000 + 16 * frame + at) value)

  -- the field is the value
  field_here : 0x40000 + 16 * frame + at + 4 ≤ length m → value < 2 ^ 32 → field_in after at frame ≡ value
  unfolding field_in
  field_here room small =
      let cut : number_at after 4 (0x40000 + 16 * frame + at) ≡ value % 256 ^ 4 =
      laws.number_stored m 4 (0x40000 + 16 * frame + at) value room in
      omega (arith, cut, small)

  -- another field stays, of this frame or of another one
  field_apart : (other f : ℕ) → (0x40000 + 16 * f + other + 4 ≤ 0x40000 + 16 * frame + at) ⊎ (0x40000 + 16 * frame + at + 4 ≤ 0x40000 + 16 * f + other)
      → field_in after other f ≡ field_in m other f
  unfolding field_in
  field_apart other f apart =
      laws.number_elsewhere m (stores 4 (0x40000 + 16 * frame + at) value) 4 (0x40000 + 16 * f + other)
      (All-weaker (λ (w : ℕ × ℕ). (0x40000 + 16 * frame + at ≤ w.0) × (w.0 < 0x40000 + 16 * frame + at + 4))
      (λ (w : ℕ × ℕ). (w.0 < 0x40000 + 16 * f + other) ⊎ (0x40000 + 16 * f + other + 4 ≤ w.0))
      (λ w within. elim apart [
        | inl below ↦ inr (omega (arith, below, within.0))
        | inr above ↦ inl (omega (arith, above, within.1))
      ])
      (stores 4 (0x40000 + 16 * frame + at) value) (laws.places 4 (0x40000 + 16 * frame + at) value))

  field_of_others : (f : ℕ) → at ≤ 12 → f ≢ frame → field_in after at f ≡ field_in m at f
  field_of_others f small apart =
      field_apart at f
      (elim (cases_lt f frame) [
        | inl below ↦ inl (omega (arith, below, small))
        | inr above ↦ inr (omega (arith, above, apart, small))
      ])

  other_field : (other f : ℕ) → (other + 4 ≤ at) ⊎ (at + 4 ≤ other) → at ≤ 12 → other ≤ 12
      → field_in after other f ≡ field_in m other f
  other_field other f apart small least =
      field_apart other f
      (elim (cases_lt f frame) [
        | inl below ↦ inl (omega (arith, below, small, least))
        | inr above ↦ elim (cases_lt frame f) [
          | inl over ↦ inr (omega (arith, over, small, least))
          | inr here ↦ elim apart [
            | inl lower ↦ inl (omega (arith, above, here, lower))
            | inr upper ↦ inr (omega (arith, above, here, upper))
          ]
        ]
      ])

  -- no byte in front of the descriptors changes, nor one behind them
  byte_apart : (frames p : ℕ) → frame < frames → at ≤ 12 → (p < 0x40000) ⊎ (0x40000 + 16 * frames ≤ p)
      → byte_at after p ≡ byte_at m p
  byte_apart frames p inside small apart =
      laws.byte_elsewhere m (stores 4 (0x40000 + 16 * frame + at) value) p
      (All-weaker (λ (w : ℕ × ℕ). (0x40000 + 16 * frame + at ≤ w.0) × (w.0 < 0x40000 + 16 * frame + at + 4))
      (λ (w : ℕ × ℕ). w.0 ≢ p)
      (λ w within same. elim apart [
        | inl below ↦ omega (arith, below, within.0, same)
        | inr above ↦ omega (arith, above, within.1, same, inside, small)
      ])
      (stores 4 (0x40000 + 16 * frame + at) value) (laws.places 4 (0x40000 + 16 * frame + at) value))

  differs_in_field : (frames : ℕ) → frame < frames → at ≤ 12 → DiffersInField frames at m after
  differs_in_field frames inside small = record {
    size = laws.length m (stores 4 (0x40000 + 16 * frame + at) value);
    others = λ other f apart least within. other_field other f apart small least;
    elsewhere = λ p apart. byte_apart frames p inside small apart;
  }

  pub is_put : (frames : ℕ) → length m ≡ 4096 * frames → 65 ≤ frames → at ≤ 12 → frame < frames → value < 2 ^ 32
      → IsPut frames at frame value m after
  is_put frames size least small inside fits = record {
    here = field_here (omega (arith, size, least, small, inside)) fits;
    apart = λ f apart. field_of_others f small apart;
    differs = differs_in_field frames inside small;
  }
