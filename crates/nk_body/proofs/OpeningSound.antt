-- The opening's memory holds sound tables, and its ledger is kept.
use Rattle.std.proofs.Common.{◌≡◌, ◌≢◌, ◌⊎◌, ℕ, ◌+◌, ◌-◌, ◌*◌, ◌<◌, ◌≤◌, Bool, true, false, List, length, arith, refl, sym, ap, ◌∙◌, inl, inr}
use Rattle.std.specs.Prelude.{not, ◌&&◌, ◌||◌, ◌==◌, if◌then◌else◌}
use Rattle.std.proofs.lemmas.Bool.{and_parts, cases_Bool, cond-false, eq-eqb, eqb-true, ne_eqb}
use Rattle.std.proofs.lemmas.Bool.Decides.{eqb_tells}
use Rattle.nk_bits.specs.declared.kind.Kind.{Kind}
use Rattle.nk_bits.specs.declared.kind.Kind.TheVariants.{Fixed, Guarded, Table}
use Rattle.nk_bits.specs.EntryForms.{has_form, has_leaf_form, has_table_form}
use Rattle.nk_bits.specs.Kinds.{allows, kind_of, level_of}
use Rattle.nk_bits.specs.Paging.{frame_of, grants_fetches, is_present, is_slot_entry, is_user, grants_writes, rights_of, slot_value}
use Rattle.phys_mem.specs.Memory.{entry_in}
use Rattle.boot_map.specs.Opening.{IsOpening}
use Rattle.boot_map.specs.OpeningKinds.{kind_at, kinds}
use Rattle.boot_map.specs.Parts.{part_at}
use Rattle.page_desc.specs.PageTables.{HoldsSoundTables}
use Rattle.page_desc.specs.SoundTables.{is_lawful, is_lawful_leaf, is_lawful_link}
use Rattle.write_log.specs.LogRecords.{log_size}
use Rattle.nk_body.specs.NestedRecord.{IsLedgerKept}
use Rattle.nk_body.specs.SourceWords.{opening_ledger}
use borrow.Author.Count.{below_more, below_none}

-- what is used of the laws of the opening and of sound tables
pub record OpeningLaws (b m : List ℕ) (frames : ℕ) : Type 0 where
  pub count : length (kinds b frames) ≡ frames
  pub each : (f : ℕ) → f < frames → kind_of (kinds b frames) f ≡ kind_at b frames f
  pub handler : kind_at b frames 2 ≡ Fixed
  pub root : kind_at b frames 5 ≡ Table 4
  pub area : kind_at b frames 8 ≡ Fixed
  pub directory : kind_at b frames 9 ≡ Fixed
  pub slot_root : kind_at b frames 6 ≡ Fixed
  pub area_root : kind_at b frames 7 ≡ Fixed
  pub levels : (f : ℕ) → level_of (kind_of (kinds b frames) f) ≤ 4
  pub leaf : (f i : ℕ) → i < 512 → level_of (kind_of (kinds b frames) f) ≡ 1 → is_present (entry_in m f i) ≡ true
      → allows (kind_of (kinds b frames) (frame_of (entry_in m f i))) (rights_of (entry_in m f i)) ≡ true
  pub link : (f i : ℕ) → i < 512 → 2 ≤ level_of (kind_of (kinds b frames) f)
      → is_slot_entry (level_of (kind_of (kinds b frames) f)) i ≡ false → is_present (entry_in m f i) ≡ true
      → (level_of (kind_of (kinds b frames) (frame_of (entry_in m f i))) + 1 ≡ level_of (kind_of (kinds b frames) f))
      × (grants_writes (entry_in m f i) ≡ true) × (is_user (entry_in m f i) ≡ true) × (grants_fetches (entry_in m f i) ≡ true)
  pub form : (f i : ℕ) → i < 512 → 1 ≤ level_of (kind_of (kinds b frames) f) → is_present (entry_in m f i) ≡ true
      → has_form (level_of (kind_of (kinds b frames) f)) (entry_in m f i) ≡ true
  pub slot : (f : ℕ) → level_of (kind_of (kinds b frames) f) ≡ 4 → entry_in m f 511 ≡ slot_value
  pub named : (i : ℕ) → i < 512 → is_present (entry_in m 9 i) ≡ true
      → (kind_of (kinds b frames) (frame_of (entry_in m 9 i)) ≡ Fixed) × (frame_of (entry_in m 9 i) ≢ 2)
  pub slot_names : (i : ℕ) → i < 512 → is_present (entry_in m 6 i) ≡ true
      → (frame_of (entry_in m 6 i) ≡ 7) ⊎ (frame_of (entry_in m 6 i) ≡ 9)
  pub area_names : (i : ℕ) → i < 512 → is_present (entry_in m 7 i) ≡ true → frame_of (entry_in m 7 i) ≡ 8
  pub lawful_leaf : (ks : List Kind) (i e : ℕ)
      → (is_present e ≡ true → (has_leaf_form e ≡ true) × (allows (kind_of ks (frame_of e)) (rights_of e) ≡ true))
      → is_lawful ks 1 i e ≡ true
  pub lawful_link : (ks : List Kind) (level i e : ℕ) → level ≢ 1 → is_slot_entry level i ≡ false
      → (is_present e ≡ true → (has_table_form e ≡ true) × (level_of (kind_of ks (frame_of e)) + 1 ≡ level))
      → is_lawful ks level i e ≡ true

-- the kernel slot's value is lawful in its entry
lawful_slot : (ks : List Kind) (level i e : ℕ) → is_slot_entry level i ≡ true → e ≡ slot_value → is_lawful ks level i e ≡ true
unfolding is_lawful
lawful_slot ks level i e at is =
    ap (λ (x : Bool). if x then e == slot_value else not (is_present e) || (has_form level e && (if level == 1 then is_lawful_leaf ks e else is_lawful_link ks level e))) at
    ∙ ap (λ n. n == slot_value) is ∙ eq-eqb slot_value slot_value refl

module _ (b m : List ℕ) (frames : ℕ) (laws : OpeningLaws b m frames) (least : 512 ≤ frames) (opening : IsOpening b frames m) where
  abbrev ks : List Kind
  ks = kinds b frames

  lawful : (f i : ℕ) → i < 512 → 1 ≤ level_of (kind_of ks f) → level_of (kind_of ks f) ≤ 4
      → is_lawful ks (level_of (kind_of ks f)) i (entry_in m f i) ≡ true
  lawful f i small least most = elim (cases_Bool (is_slot_entry (level_of (kind_of ks f)) i)) [
    | inl at ↦
        let parts = and_parts (level_of (kind_of ks f) == 4) (i == 511) at in
        lawful_slot ks (level_of (kind_of ks f)) i (entry_in m f i) at
        (ap (entry_in m f) (eqb-true i 511 parts.1) ∙ laws.slot f (eqb-true _ 4 parts.0))
    | inr other ↦ elim (eqb_tells (level_of (kind_of ks f)) 1) [
      | inl one ↦ ap (λ n. is_lawful ks n i (entry_in m f i)) one.1 ∙ laws.lawful_leaf ks i (entry_in m f i)
          (λ present. (ap (λ n. has_form n (entry_in m f i)) (sym one.1) ∙ laws.form f i small least present, laws.leaf f i small one.1 present))
      | inr more ↦ laws.lawful_link ks (level_of (kind_of ks f)) i (entry_in m f i) more.1 other
          (λ present. let e : ℕ = entry_in m f i in
          let test : (level_of (kind_of ks f) == 1) ≡ false = ne_eqb (level_of (kind_of ks f)) 1 more.1 in (
            sym (cond-false (level_of (kind_of ks f) == 1) (has_leaf_form e) (has_table_form e) test) ∙ laws.form f i small least present,
            (laws.link f i small (omega (arith, least, more.1)) other present).0,
          ))
    ]
  ]

  pub opening_sound : HoldsSoundTables ks 5 m
  opening_sound = record {
    size = opening.length ∙ ap (λ n. 4096 * n) (sym laws.count);
    levels = laws.levels;
    tables = record { lawful = lawful };
    root_level = ap level_of (laws.each 5 (omega (arith, least)) ∙ laws.root);
    slot = record {
      table = laws.each 8 (omega (arith, least)) ∙ laws.area;
      directory = laws.each 9 (omega (arith, least)) ∙ laws.directory;
      named = λ i small present. (laws.named i small present).0;
    };
    handler = laws.each 2 (omega (arith, least)) ∙ laws.handler;
    apart = λ i small present. (laws.named i small present).1;
    slot_root = laws.each 6 (omega (arith, least)) ∙ laws.slot_root;
    area_root = laws.each 7 (omega (arith, least)) ∙ laws.area_root;
    slot_names = laws.slot_names;
    area_names = laws.area_names;
  }

-- the pool's frames are guarded
pool_kind : (b : List ℕ) (frames : ℕ) (k : ℕ) → k < 16 → kind_at b frames (10 + k) ≡ Guarded
unfolding kind_at part_at
pool_kind b frames =
    below_more P 15 (below_more P 14 (below_more P 13 (below_more P 12 (below_more P 11 (below_more P 10 (below_more P 9 (below_more P 8
    (below_more P 7 (below_more P 6 (below_more P 5 (below_more P 4 (below_more P 3 (below_more P 2 (below_more P 1 (below_more P 0
    (below_none P) refl) refl) refl) refl) refl) refl) refl) refl) refl) refl) refl) refl) refl) refl) refl) refl
  where
    P : ℕ → Type 0
    P k = kind_at b frames (10 + k) ≡ Guarded

pub opening_kept : (b : List ℕ) (frames : ℕ) → 512 ≤ frames
    → ((f : ℕ) → f < frames → kind_of (kinds b frames) f ≡ kind_at b frames f) → IsLedgerKept (kinds b frames) opening_ledger
unfolding log_size
opening_kept b frames least each = record {
  book = record {
    next = omega arith;
    count = omega arith;
    each = λ k d below. absurd (omega (arith, below));
    rising = λ i j d low below. absurd (omega (arith, below));
    apart = λ i j d low below. absurd (omega (arith, below));
    pages = refl;
    most = omega arith;
  };
  frames = λ k d below. absurd (omega (arith, below));
  pool = λ f low high. each f (omega (arith, least, high)) ∙ ap (kind_at b frames) (omega (arith, low)) ∙ pool_kind b frames (f - 10) (omega (arith, low, high));
  log = omega arith;
}
