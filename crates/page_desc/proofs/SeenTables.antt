-- Tables in two memories that agree outside hidden frames: they are one record, sound in both where they are in one, and
-- every walk finds the same.
use Rattle.std.proofs.Common.{◌≡◌, ◌≢◌, ℕ, ◌+◌, ◌*◌, ◌/◌, ◌<◌, ◌≤◌, true, false, not, ◌&&◌, List, length, All, arith, refl, sym, ap, subst, ◌∙◌}
use Rattle.std.specs.Prelude.{nat_lt}
use Rattle.std.proofs.lemmas.Bool.{and_parts, false_from_ne_true, ltb-true, true≢false}
use Rattle.std.proofs.lemmas.List.Elements.{All-weaker}
use Rattle.phys_mem.specs.MaskedMemory.{is_book_frame, masked, seen}
use Rattle.phys_mem.specs.Memory.{byte_at, entry_in, stored}
use Rattle.phys_mem.specs.MaskLaws.{MaskLaws}
use Rattle.nk_bits.specs.declared.kind.Kind.{Kind}
use Rattle.nk_bits.specs.declared.kind.Kind.TheVariants.{Data, Code, Table, Fixed, Trap, Guarded, Hidden}
use Rattle.nk_bits.specs.Kinds.{is_hidden, kind_of}
use Rattle.nk_bits.specs.Paging.{walk}
use Rattle.page_desc.specs.DescriptorBytes.{HoldsTables, descriptors_in, kinds_in}
use Rattle.page_desc.specs.FrameDescriptors.{Descriptors}
use Rattle.page_desc.specs.PageTables.{AreDescribed, HoldsSoundTables, Tables, is_handler_byte, is_unchanging, is_table, is_unguarded, unchanging_bytes, table_entries, tables_in, value_in}
use Rattle.page_desc.proofs.DescriptorValues.{descriptor_count, frames_in}
use Rattle.page_desc.proofs.DescriptorsKept.{descriptors_held, descriptors_same}
use Rattle.page_desc.proofs.PageTableStores.{StoreLaws, choice_same, described_stays}
use Rattle.page_desc.proofs.RecordWalk.{record_walk}
use Rattle.page_desc.proofs.SoundWhere.{sound_where}

-- a page table isn't hidden, nor is a frame whose bytes never change
table_shown : (kind : Kind) → is_table kind ≡ true → is_hidden kind ≡ false
table_shown Data is = refl
table_shown Code is = refl
table_shown (Table level) is = refl
table_shown Fixed is = refl
table_shown Trap is = refl
table_shown Guarded is = refl
table_shown Hidden is = sym is

kept_shown : (kind : Kind) → is_unchanging kind ≡ true → is_hidden kind ≡ false
kept_shown Data is = refl
kept_shown Code is = refl
kept_shown (Table level) is = refl
kept_shown Fixed is = refl
kept_shown Trap is = refl
kept_shown Guarded is = refl
kept_shown Hidden is = sym is

-- memories of one size that agree outside hidden frames
pub record AreAlike (kinds : List Kind) (l m : List ℕ) : Type 0 where
  pub size : length l ≡ length m
  pub bytes : (p : ℕ) → is_hidden (kind_of kinds (p / 4096)) ≡ false → byte_at l p ≡ byte_at m p
  pub entries : (f i : ℕ) → i < 512 → is_hidden (kind_of kinds f) ≡ false → entry_in l f i ≡ entry_in m f i

module _ (kinds : List Kind) (l m : List ℕ) (alike : AreAlike kinds l m) where
  table_same : (f i : ℕ) → i < 512 → is_table (kind_of kinds f) ≡ true → entry_in l f i ≡ entry_in m f i
  table_same f i small is = alike.entries f i small (table_shown (kind_of kinds f) is)

  fixed_same : (f i : ℕ) → i < 512 → kind_of kinds f ≡ Fixed → entry_in l f i ≡ entry_in m f i
  fixed_same f i small is = alike.entries f i small (ap is_hidden is)

  entries_same : (f i : ℕ) → table_entries kinds l f i ≡ table_entries kinds m f i
  unfolding table_entries
  entries_same f i =
      choice_same (is_table (kind_of kinds f) && nat_lt i 512) _ _ 0
      (λ is.
      let parts = and_parts (is_table (kind_of kinds f)) (nat_lt i 512) is in
      table_same f i (ltb-true i 512 parts.1) parts.0)

  bytes_same : (f offset : ℕ) → unchanging_bytes kinds l f offset ≡ unchanging_bytes kinds m f offset
  unfolding unchanging_bytes
  bytes_same f offset =
      choice_same (is_unchanging (kind_of kinds f) && nat_lt offset 4096 && not (is_handler_byte f offset)) _ _ 0
      (λ kept.
      let parts = and_parts (is_unchanging (kind_of kinds f) && nat_lt offset 4096) (not (is_handler_byte f offset)) kept in
      let inside = and_parts (is_unchanging (kind_of kinds f)) (nat_lt offset 4096) parts.0 in
      let small : offset < 4096 = ltb-true offset 4096 inside.1 in
      let frame : (4096 * f + offset) / 4096 ≡ f = omega (arith, small) in
      alike.bytes (4096 * f + offset) (ap (λ g. is_hidden (kind_of kinds g)) frame ∙ kept_shown (kind_of kinds f) inside.0))

  pub tables_same : (root : ℕ) → tables_in kinds root l ≡ tables_in kinds root m
  tables_same root =
      let entries : table_entries kinds l ≡ table_entries kinds m = λ j f i. entries_same f i j in
      let bytes : unchanging_bytes kinds l ≡ unchanging_bytes kinds m = λ j f offset. bytes_same f offset j in
      λ j. record { kinds = kinds; entries = entries j; fixed = bytes j; root = root }

  module _ (root : ℕ) (sound : HoldsSoundTables kinds root m) where
    pub sound_same : HoldsSoundTables kinds root l
    sound_same = sound_where kinds root m l alike.size table_same (λ f i small is apart. fixed_same f i small is) sound

    pub walks_alike : (page : ℕ) → walk (entry_in l) (length kinds) root page ≡ walk (entry_in m) (length kinds) root page
    walks_alike page =
        sym (record_walk kinds root l sound_same page)
        ∙ ap (λ (t : Tables). walk (value_in t) (length kinds) root page) (tables_same root)
        ∙ record_walk kinds root m sound page

-- tables under descriptors in memory: what of them is seen
module _ (masks : MaskLaws) (frames root : ℕ) (m : List ℕ) (held : HoldsTables frames root m) where
  pub unhidden : (f : ℕ) → is_hidden (kind_of (kinds_in m) f) ≡ false → is_book_frame frames f ≡ false
  unhidden f shown =
      false_from_ne_true (is_book_frame frames f)
      (λ book. true≢false (sym (ap is_hidden (held.hidden f book)) ∙ shown))

  -- the test of the mask
  shown_by : (f : ℕ) → is_hidden (kind_of (kinds_in m) f) ≡ false → is_book_frame (length m / 4096) f ≡ false
  shown_by f shown = ap (λ k. is_book_frame k f) (frames_in frames m held.stored) ∙ unhidden f shown

  pub entries_seen : (f i : ℕ) → i < 512 → is_hidden (kind_of (kinds_in m) f) ≡ false
      → entry_in m f i ≡ entry_in (seen m) f i
  entries_seen f i small shown =
      sym (masks.entry_seen (is_book_frame (length m / 4096)) m f i small (shown_by f shown))

  alike_seen : AreAlike (kinds_in m) m (seen m)
  alike_seen = record {
    size = sym (masks.length (is_book_frame (length m / 4096)) m);
    bytes = λ p shown. sym (masks.byte_seen (is_book_frame (length m / 4096)) m p (shown_by (p / 4096) shown));
    entries = entries_seen;
  }

  pub walks_seen : (page : ℕ) → walk (entry_in m) (length m / 4096) root page ≡ walk (entry_in (seen m)) (length m / 4096) root page
  walks_seen page =
      subst (λ k. walk (entry_in m) k root page ≡ walk (entry_in (seen m)) k root page)
      ((descriptor_count frames m held.stored).0 ∙ sym (frames_in frames m held.stored))
      (walks_alike (kinds_in m) m (seen m) alike_seen root held.described.sound page)

  module _ (laws : StoreLaws) (ws : List (ℕ × ℕ)) (free : All (λ w. is_unguarded (kinds_in m) w.0 ≡ true) ws)
      (shown : All (λ w. is_hidden (kind_of (kinds_in m) (w.0 / 4096)) ≡ false) ws) where
    pub stores_seen : seen (stored m ws) ≡ stored (seen m) ws
    stores_seen =
        ap (λ k. masked (is_book_frame (k / 4096)) (stored m ws)) (laws.memory.length m ws)
        ∙ masks.stored_seen (is_book_frame (length m / 4096)) m ws
        (All-weaker (λ (w : ℕ × ℕ). is_hidden (kind_of (kinds_in m) (w.0 / 4096)) ≡ false)
        (λ (w : ℕ × ℕ). is_book_frame (length m / 4096) (w.0 / 4096) ≡ false)
        (λ w is. shown_by (w.0 / 4096) is) ws shown)

    book_bytes_stay : (p : ℕ) → 0x40000 ≤ p → is_book_frame frames (p / 4096) ≡ true → byte_at (stored m ws) p ≡ byte_at m p
    book_bytes_stay p least book =
        laws.memory.byte_elsewhere m ws p
        (All-weaker (λ (w : ℕ × ℕ). is_hidden (kind_of (kinds_in m) (w.0 / 4096)) ≡ false) (λ (w : ℕ × ℕ). w.0 ≢ p)
        (λ w is same. true≢false (sym book ∙ ap (λ q. is_book_frame frames (q / 4096)) (sym same) ∙ unhidden (w.0 / 4096) is))
        ws shown)

    pub descriptors_stay : descriptors_in (stored m ws) ≡ descriptors_in m
    descriptors_stay = descriptors_same frames m (stored m ws) held.stored (laws.memory.length m ws) book_bytes_stay

    pub tables_held_after : HoldsTables frames root (stored m ws)
    tables_held_after = record {
      stored = descriptors_held frames m (stored m ws) held.stored (laws.memory.length m ws) book_bytes_stay;
      described =
          subst (λ (d : Descriptors). AreDescribed d root (seen (stored m ws))) (sym descriptors_stay)
          (subst (λ l. AreDescribed (descriptors_in m) root l) (sym stores_seen)
          (described_stays laws (descriptors_in m) root (seen m) ws held.described free));
      hidden = λ f book. ap (λ (d : Descriptors). kind_of d.kinds f) descriptors_stay ∙ held.hidden f book;
    }
