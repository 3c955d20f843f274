-- The memory of the tests holds sound tables: the root in frame 5, and the kernel slot's tables, of which frame 9 names 10.
use Rattle.std.proofs.Common.{◌≡◌, ◌≢◌, ◌⊎◌, ℕ, ◌+◌, ◌*◌, ◌/◌, ◌<◌, ◌≤◌, Bool, true, false, not, ◌||◌, ◌==◌, List, length, arith, refl, sym, ap, subst, ◌∙◌, inl, inr}
use Rattle.std.proofs.lemmas.Bool.{cases_eq, cond-false, false_from_ne_true, ne_eqb, true≢false}
use Rattle.nk_bits.specs.declared.kind.Kind.{Kind}
use Rattle.nk_bits.specs.declared.kind.Kind.TheVariants.{Fixed, Hidden, Table}
use Rattle.nk_bits.specs.Kinds.{kind_of, level_of}
use Rattle.nk_bits.specs.Paging.{frame_of, is_present, slot_value}
use Rattle.phys_mem.specs.MaskedMemory.{is_book_frame, seen}
use Rattle.phys_mem.specs.Memory.{entry_in}
use Rattle.phys_mem.specs.MaskLaws.{MaskLaws}
use Rattle.page_desc.specs.DescriptorBytes.{DiffersInDescriptors, HoldsDescriptors, HoldsTables, descriptors_in, kinds_in}
use Rattle.page_desc.specs.FrameCounts.{IsSlotFixed, may_hold_table}
use Rattle.page_desc.specs.FrameDescriptors.{AreCounted}
use Rattle.page_desc.specs.PageTables.{HoldsSoundTables}
use Rattle.page_desc.specs.SoundTables.{is_lawful}
use Rattle.page_desc.specs.CountLaws.{DescriptorLaws}
use Rattle.page_desc.specs.StoredLaws.{StoredLaws}

pub record IsSmall (kinds : List Kind) (m : List ℕ) : Type 0 where
  pub size : length m ≡ 4096 * 80
  pub count : length kinds ≡ 80
  pub hidden : (f : ℕ) → is_book_frame 80 f ≡ true → kind_of kinds f ≡ Hidden
  pub root : kind_of kinds 5 ≡ Table 4
  pub others : (f : ℕ) → f ≢ 5 → level_of (kind_of kinds f) ≡ 0
  pub handler : kind_of kinds 2 ≡ Fixed
  pub slot_root : kind_of kinds 6 ≡ Fixed
  pub area_root : kind_of kinds 7 ≡ Fixed
  pub table : kind_of kinds 8 ≡ Fixed
  pub directory : kind_of kinds 9 ≡ Fixed
  pub named : kind_of kinds 10 ≡ Fixed
  pub root_rest : (i : ℕ) → i < 511 → is_present (entry_in m 5 i) ≡ false
  pub root_last : entry_in m 5 511 ≡ 24615
  pub slot_names : (i : ℕ) → i < 512 → is_present (entry_in m 6 i) ≡ true → frame_of (entry_in m 6 i) ≡ 7
  pub area_names : (i : ℕ) → i < 512 → is_present (entry_in m 7 i) ≡ true → frame_of (entry_in m 7 i) ≡ 8
  pub directory_names : (i : ℕ) → i < 512 → is_present (entry_in m 9 i) ≡ true → frame_of (entry_in m 9 i) ≡ 10

lawful_last : (kinds : List Kind) → is_lawful kinds 4 511 24615 ≡ true
unfolding is_lawful slot_value
lawful_last kinds = refl

absent_or : (b c : Bool) → b ≡ false → (not b || c) ≡ true
absent_or true c is = absurd (cc)
absent_or false c is = refl

lawful_rest : (kinds : List Kind) (i e : ℕ) → i ≢ 511 → is_present e ≡ false → is_lawful kinds 4 i e ≡ true
unfolding is_lawful
lawful_rest kinds i e apart absent =
    cond-false (i == 511) (e == slot_value) _ (ne_eqb i 511 apart) ∙ absent_or (is_present e) _ absent

module _ (kinds : List Kind) (m : List ℕ) (small : IsSmall kinds m) where
  root_lawful : (i : ℕ) → i < 512 → is_lawful kinds 4 i (entry_in m 5 i) ≡ true
  root_lawful i inside =
      elim (cases_eq i 511) [
        | inl is ↦ (λ j. is_lawful kinds 4 (is j) (entry_in m 5 (is j))) ∙ ap (is_lawful kinds 4 511) small.root_last ∙ lawful_last kinds
        | inr apart ↦ lawful_rest kinds i (entry_in m 5 i) apart (small.root_rest i (omega (arith, inside, apart)))
      ]

  pub small_slot : IsSlotFixed kinds (entry_in m)
  small_slot = record {
    table = small.table;
    directory = small.directory;
    named = λ i inside present. ap (kind_of kinds) (small.directory_names i inside present) ∙ small.named;
  }

  pub small_holds : HoldsSoundTables kinds 5 m
  small_holds = record {
    size = small.size ∙ ap (λ n. 4096 * n) (sym small.count);
    levels = λ f. elim (cases_eq f 5) [
      | inl is ↦ omega (arith, ap (λ g. level_of (kind_of kinds g)) is, ap level_of small.root)
      | inr apart ↦ omega (arith, small.others f apart)
    ];
    tables = record {
      lawful = λ f i inside least most. elim (cases_eq f 5) [
        | inl is ↦
            (λ j. is_lawful kinds (level_of (kind_of kinds (is j))) i (entry_in m (is j) i))
            ∙ ap (λ kind. is_lawful kinds (level_of kind) i (entry_in m 5 i)) small.root ∙ root_lawful i inside
        | inr apart ↦ absurd (omega (arith, least, small.others f apart))
      ];
    };
    root_level = ap level_of small.root;
    slot = small_slot;
    handler = small.handler;
    apart = λ i inside present is. absurd (omega (arith, small.directory_names i inside present, is));
    slot_root = small.slot_root;
    area_root = small.area_root;
    slot_names = λ i inside present. inl (small.slot_names i inside present);
    area_names = small.area_names;
  }

shown_5 : is_book_frame 80 5 ≡ false
unfolding is_book_frame
shown_5 = refl

shown_6 : is_book_frame 80 6 ≡ false
unfolding is_book_frame
shown_6 = refl

shown_7 : is_book_frame 80 7 ≡ false
unfolding is_book_frame
shown_7 = refl

shown_9 : is_book_frame 80 9 ≡ false
unfolding is_book_frame
shown_9 = refl

-- what is used of the laws below
pub record SeenLaws : Type 0 where
  pub mask : MaskLaws
  pub descriptor : DescriptorLaws
  pub stored : StoredLaws

module _ (laws : SeenLaws) (kinds : List Kind) (m : List ℕ) (small : IsSmall kinds m) where
  seen_entry : (f i : ℕ) → i < 512 → is_book_frame 80 f ≡ false → entry_in (seen m) f i ≡ entry_in m f i
  seen_entry f i inside shown =
      let count : length m / 4096 ≡ 80 = omega (arith, small.size) in
      laws.mask.entry_seen (is_book_frame (length m / 4096)) m f i inside (ap (λ n. is_book_frame n f) count ∙ shown)

  small_seen : IsSmall kinds (seen m)
  small_seen = record {
    size = laws.mask.length (is_book_frame (length m / 4096)) m ∙ small.size;
    count = small.count;
    hidden = small.hidden;
    root = small.root;
    others = small.others;
    handler = small.handler;
    slot_root = small.slot_root;
    area_root = small.area_root;
    table = small.table;
    directory = small.directory;
    named = small.named;
    root_rest = λ i inside. ap is_present (seen_entry 5 i (omega (arith, inside)) shown_5) ∙ small.root_rest i inside;
    root_last = seen_entry 5 511 (omega arith) shown_5 ∙ small.root_last;
    slot_names = λ i inside present.
        ap frame_of (seen_entry 6 i inside shown_6) ∙ small.slot_names i inside (ap is_present (sym (seen_entry 6 i inside shown_6)) ∙ present);
    area_names = λ i inside present.
        ap frame_of (seen_entry 7 i inside shown_7) ∙ small.area_names i inside (ap is_present (sym (seen_entry 7 i inside shown_7)) ∙ present);
    directory_names = λ i inside present.
        ap frame_of (seen_entry 9 i inside shown_9) ∙ small.directory_names i inside (ap is_present (sym (seen_entry 9 i inside shown_9)) ∙ present);
  }

  -- a frame that may hold a table isn't one of the books'
  shown_table : (f : ℕ) → may_hold_table (kind_of kinds f) ≡ true → is_book_frame 80 f ≡ false
  shown_table f may =
      false_from_ne_true (is_book_frame 80 f) (λ book. true≢false (sym may ∙ ap may_hold_table (small.hidden f book)))

  pub small_held : (frames : ℕ) (n : List ℕ) → frames ≡ length kinds → kinds_in n ≡ kinds → AreCounted (descriptors_in n) (entry_in m)
      → HoldsDescriptors frames n → DiffersInDescriptors m n → HoldsTables frames 5 n
  small_held frames n count stand counted held differs =
      let before : DiffersInDescriptors n m = record {
        size = sym differs.size;
        elsewhere = λ p outside. sym (differs.elsewhere p (subst (λ k. (p < 0x40000) ⊎ (0x40000 + 16 * (k / 4096) ≤ p)) differs.size outside));
      } in
      let same : seen m ≡ seen n = laws.stored.unseen frames n m held before in
      record {
        stored = held;
        described = record {
          sound = subst (λ ks. HoldsSoundTables ks 5 (seen n)) (sym stand) (subst (HoldsSoundTables kinds 5) same (small_holds kinds (seen m) small_seen));
          counted = subst (λ l. AreCounted (descriptors_in n) (entry_in l)) same
              (laws.descriptor.elsewhere (descriptors_in n) (entry_in m) (entry_in (seen m)) counted
              (subst (λ ks. IsSlotFixed ks (entry_in m)) (sym stand) (small_slot kinds m small))
              (λ f i inside may. seen_entry f i inside (shown_table f (ap (λ ks. may_hold_table (kind_of ks f)) (sym stand) ∙ may))));
        };
        hidden = λ f book.
            ap (λ ks. kind_of ks f) stand
            ∙ small.hidden f (ap (λ k. is_book_frame k f) (sym (count ∙ small.count)) ∙ book);
      }
