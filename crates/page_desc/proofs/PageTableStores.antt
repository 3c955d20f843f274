-- Stores outside page tables and outside the bytes that never change leave what memory's tables stand for, and keep the
-- tables sound and described.
use Rattle.std.proofs.Common.{◌≡◌, ◌≢◌, ℕ, ◌+◌, ◌*◌, ◌/◌, ◌%◌, ◌<◌, Bool, true, false, not, ◌&&◌, ◌||◌, ◌==◌, List, All, arith, refl, sym, ap, ◌∙◌, inl, inr}
use Rattle.std.specs.Prelude.{nat_lt, if◌then◌else◌}
use Rattle.std.proofs.lemmas.Bool.{and_parts, eqb-true, false≢true, ltb-true, or_cases}
use Rattle.std.proofs.lemmas.List.Elements.{All-weaker}
use Rattle.nk_bits.specs.declared.kind.Kind.{Kind}
use Rattle.nk_bits.specs.declared.kind.Kind.TheVariants.{Fixed}
use Rattle.nk_bits.specs.Kinds.{kind_of}
use Rattle.phys_mem.specs.Memory.{entry_in, stored}
use Rattle.phys_mem.specs.MemoryLaws.{FrameLaws, MemoryLaws}
use Rattle.page_desc.specs.FrameCounts.{links_in, loose_in}
use Rattle.page_desc.specs.FrameDescriptors.{Descriptors}
use Rattle.page_desc.specs.PageTables.{AreDescribed, HoldsSoundTables, Tables, is_handler_byte, is_unchanging, is_table, is_unguarded, unchanging_bytes, links_of, loose_of, table_entries, tables_in}
use Rattle.page_desc.proofs.PageTableValues.{links_are, loose_is}
use Rattle.page_desc.proofs.SoundWhere.{sound_where}

-- what is used of the laws of memory
pub record StoreLaws : Type 0 where
  pub memory : MemoryLaws
  pub frame : FrameLaws

pub choice_same : {A : Type 0} (b : Bool) (x y z : A) → (b ≡ true → x ≡ y) → (if b then x else z) ≡ (if b then y else z)
choice_same true x y z same = same refl
choice_same false x y z same = refl

-- both a test and its contrary
clash : {A : Type 0} (b : Bool) → b ≡ true → not b ≡ true → A
clash b is other = absurd (false≢true (sym (ap not is) ∙ other))

-- a byte that isn't guarded lies in no page table
pub unguarded_apart : (kinds : List Kind) (place f : ℕ) → is_unguarded kinds place ≡ true → is_table (kind_of kinds f) ≡ true
    → place / 4096 ≢ f
unguarded_apart kinds place f free table same =
    clash (is_table (kind_of kinds f)) table
    (ap (λ g. not (is_table (kind_of kinds g))) (sym same)
    ∙ (and_parts (not (is_table (kind_of kinds (place / 4096)))) _ free).0)

-- nor is it one that never changes
pub unguarded_kept : (kinds : List Kind) (place f offset : ℕ) → is_unguarded kinds place ≡ true
    → (is_unchanging (kind_of kinds f) && nat_lt offset 4096 && not (is_handler_byte f offset)) ≡ true
    → place ≢ 4096 * f + offset
unguarded_kept kinds place f offset free kept same =
    let parts = and_parts (is_unchanging (kind_of kinds f) && nat_lt offset 4096) (not (is_handler_byte f offset)) kept in
    let inside = and_parts (is_unchanging (kind_of kinds f)) (nat_lt offset 4096) parts.0 in
    let small : offset < 4096 = ltb-true offset 4096 inside.1 in
    let frame : place / 4096 ≡ f = omega (arith, same, small) in
    let rest : place % 4096 ≡ offset = omega (arith, same, small) in
    let either : (not (is_unchanging (kind_of kinds f)) || is_handler_byte f offset) ≡ true =
    sym (λ j. not (is_unchanging (kind_of kinds (frame j))) || is_handler_byte (frame j) (rest j))
    ∙ (and_parts (not (is_table (kind_of kinds (place / 4096)))) _ free).1 in
    elim (or_cases (not (is_unchanging (kind_of kinds f))) (is_handler_byte f offset) either) [
      | inl other ↦ clash (is_unchanging (kind_of kinds f)) inside.0 other
      | inr handler ↦ clash (is_handler_byte f offset) handler parts.1
    ]

-- in a fixed frame but 2 there is none
pub unguarded_fixed : (kinds : List Kind) (place f : ℕ) → is_unguarded kinds place ≡ true → kind_of kinds f ≡ Fixed → f ≢ 2
    → place / 4096 ≢ f
unguarded_fixed kinds place f free is apart same =
    let either : (not (is_unchanging (kind_of kinds f)) || is_handler_byte f (place % 4096)) ≡ true =
    ap (λ g. not (is_unchanging (kind_of kinds g)) || is_handler_byte g (place % 4096)) (sym same)
    ∙ (and_parts (not (is_table (kind_of kinds (place / 4096)))) _ free).1 in
    elim (or_cases (not (is_unchanging (kind_of kinds f))) (is_handler_byte f (place % 4096)) either) [
      | inl other ↦ clash (is_unchanging (kind_of kinds f)) (ap is_unchanging is) other
      | inr handler ↦ apart (eqb-true f 2 (and_parts (f == 2) (nat_lt (place % 4096) 8) handler).0)
    ]

module _ (laws : StoreLaws) (kinds : List Kind) (m : List ℕ) (ws : List (ℕ × ℕ))
    (free : All (λ w. is_unguarded kinds w.0 ≡ true) ws) where
  -- the stores lie outside a frame, where each byte that isn't guarded does
  frame_stays : (f i : ℕ) → i < 512 → ((place : ℕ) → is_unguarded kinds place ≡ true → place / 4096 ≢ f)
      → entry_in (stored m ws) f i ≡ entry_in m f i
  frame_stays f i small apart =
      laws.frame.entry_elsewhere m ws f i small
      (All-weaker (λ (w : ℕ × ℕ). is_unguarded kinds w.0 ≡ true) (λ (w : ℕ × ℕ). w.0 / 4096 ≢ f) (λ w. apart w.0) ws free)

  -- as it does outside a fixed frame but 2
  fixed_stays : (f i : ℕ) → i < 512 → kind_of kinds f ≡ Fixed → f ≢ 2 → entry_in (stored m ws) f i ≡ entry_in m f i
  fixed_stays f i small fixed apart = frame_stays f i small (λ place is. unguarded_fixed kinds place f is fixed apart)

  table_stays : (f i : ℕ) → i < 512 → is_table (kind_of kinds f) ≡ true → entry_in (stored m ws) f i ≡ entry_in m f i
  table_stays f i small table = frame_stays f i small (λ place is. unguarded_apart kinds place f is table)

  entries_stay : (f i : ℕ) → table_entries kinds (stored m ws) f i ≡ table_entries kinds m f i
  unfolding table_entries
  entries_stay f i =
      choice_same (is_table (kind_of kinds f) && nat_lt i 512) _ _ 0
      (λ is.
      let parts = and_parts (is_table (kind_of kinds f)) (nat_lt i 512) is in
      table_stays f i (ltb-true i 512 parts.1) parts.0)

  bytes_stay : (f offset : ℕ) → unchanging_bytes kinds (stored m ws) f offset ≡ unchanging_bytes kinds m f offset
  unfolding unchanging_bytes
  bytes_stay f offset =
      choice_same (is_unchanging (kind_of kinds f) && nat_lt offset 4096 && not (is_handler_byte f offset)) _ _ 0
      (λ kept. laws.memory.byte_elsewhere m ws (4096 * f + offset)
      (All-weaker (λ (w : ℕ × ℕ). is_unguarded kinds w.0 ≡ true) (λ (w : ℕ × ℕ). w.0 ≢ 4096 * f + offset)
      (λ w is. unguarded_kept kinds w.0 f offset is kept) ws free))

  pub tables_stay : (root : ℕ) → tables_in kinds root (stored m ws) ≡ tables_in kinds root m
  tables_stay root =
      let entries : table_entries kinds (stored m ws) ≡ table_entries kinds m = λ j f i. entries_stay f i j in
      let bytes : unchanging_bytes kinds (stored m ws) ≡ unchanging_bytes kinds m = λ j f offset. bytes_stay f offset j in
      λ j. record { kinds = kinds; entries = entries j; fixed = bytes j; root = root }

  module _ (root : ℕ) (sound : HoldsSoundTables kinds root m) where
    pub sound_stays : HoldsSoundTables kinds root (stored m ws)
    sound_stays = sound_where kinds root m (stored m ws) (laws.memory.length m ws) table_stays fixed_stays sound

    loose_stays : (frame : ℕ) → loose_in kinds (entry_in (stored m ws)) frame ≡ loose_in kinds (entry_in m) frame
    loose_stays frame =
        sym (loose_is kinds root (stored m ws) sound_stays frame)
        ∙ ap (λ (t : Tables). loose_of t frame) (tables_stay root) ∙ loose_is kinds root m sound frame

    links_stay : (frame : ℕ) → links_in kinds (entry_in (stored m ws)) frame ≡ links_in kinds (entry_in m) frame
    links_stay frame =
        sym (links_are kinds root (stored m ws) sound_stays frame)
        ∙ ap (λ (t : Tables). links_of t frame) (tables_stay root) ∙ links_are kinds root m sound frame

-- with the descriptors
pub described_stays : (laws : StoreLaws) (d : Descriptors) (root : ℕ) (m : List ℕ) (ws : List (ℕ × ℕ))
    → AreDescribed d root m → All (λ w. is_unguarded d.kinds w.0 ≡ true) ws → AreDescribed d root (stored m ws)
described_stays laws d root m ws are free = record {
  sound = sound_stays laws d.kinds m ws free root are.sound;
  counted = record {
    loose = λ frame within.
        are.counted.loose frame within ∙ sym (loose_stays laws d.kinds m ws free root are.sound frame);
    links = λ frame within.
        are.counted.links frame within ∙ sym (links_stay laws d.kinds m ws free root are.sound frame);
  };
}
