-- The carried counts stay those of the tables: over each change of an entry, of a kind, and of a whole table.
use Rattle.std.proofs.Common.{◌≡◌, ℕ, ◌-◌, ◌^◌, ◌<◌, ◌≤◌, true, false, ◌&&◌, ◌==◌, length, set, arith, sym, ap, ◌∙◌, slice_index}
use Rattle.std.proofs.lemmas.List.{length-set}
use Rattle.std.proofs.lemmas.Bool.{and_left, and_parts, and_right, both_ways}
use Rattle.nk_bits.specs.declared.kind.Kind.{Kind}
use Rattle.nk_bits.specs.Kinds.{kind_of, level_of}
use Rattle.nk_bits.specs.Paging.{frame_of, is_present, replaced}
use Rattle.page_desc.specs.FrameCounts.{IsSlotFixed, holds_leaves, holds_links, is_link_level, is_loose, links_in, loose_in, may_hold_table}
use Rattle.page_desc.specs.FrameDescriptors.{AreCounted, Descriptors, IsReplaceable, IsReplaced}
use Rattle.page_desc.proofs.CountBounds.{links_least, links_most, loose_least, loose_most}
use Rattle.page_desc.proofs.CountLaws.{links_elsewhere, links_replaced, links_same, loose_elsewhere, loose_replaced, loose_same, table_apart}
use Rattle.page_desc.proofs.KindChanges.{links_any_kind, loose_any_kind}
use Rattle.page_desc.proofs.SlotLeafTables.{leaves_by_kind}

-- each count has room for one more
loose_room : (d : Descriptors) (t : ℕ → ℕ → ℕ) → AreCounted d t → length d.kinds ≤ 65536 → (frame : ℕ)
    → frame < length d.kinds → slice_index d.loose frame < 2 ^ 32 - 1
loose_room d t counted most frame inside = omega (arith, counted.loose frame inside, loose_most d.kinds t frame)

links_room : (d : Descriptors) (t : ℕ → ℕ → ℕ) → AreCounted d t → length d.kinds ≤ 65536 → (frame : ℕ)
    → frame < length d.kinds → slice_index d.links frame < 2 ^ 32 - 1
links_room d t counted most frame inside = omega (arith, counted.links frame inside, links_most d.kinds t frame)

-- an entry of a table may be replaced
pub table_replaceable : (d : Descriptors) (t : ℕ → ℕ → ℕ) (a b c : ℕ) → AreCounted d t → IsSlotFixed d.kinds t
    → length d.kinds ≤ 65536 → a < length d.kinds → 1 ≤ level_of (kind_of d.kinds a) → b < 512
    → IsReplaceable (level_of (kind_of d.kinds a)) (t a b) c d
unfolding holds_links
table_replaceable d t a b c counted fixed most inside table small =
    let by_kind : holds_leaves d.kinds t a ≡ (level_of (kind_of d.kinds a) == 1) =
    leaves_by_kind d.kinds t a fixed (table_apart (kind_of d.kinds a) table) in
    record {
      loose = λ stands named.
          let parts = and_parts (level_of (kind_of d.kinds a) == 1) (is_loose (t a b)) stands in
          omega (arith, counted.loose (frame_of (t a b)) named, loose_least d.kinds t a b inside small (by_kind ∙ parts.0) parts.1);
      links = λ stands named.
          let parts = and_parts (is_link_level (level_of (kind_of d.kinds a))) (is_present (t a b)) stands in
          omega (arith, counted.links (frame_of (t a b)) named, links_least d.kinds t a b inside small parts.0 parts.1);
      loose_room = λ stands. loose_room d t counted most (frame_of c);
      links_room = λ stands. links_room d t counted most (frame_of c);
    }

-- an absent value may be replaced, also after a kind is set
pub absent_replaceable : (d : Descriptors) (t : ℕ → ℕ → ℕ) (a level e c : ℕ) (kind : Kind) → AreCounted d t
    → length d.kinds ≤ 65536 → is_present e ≡ false
    → IsReplaceable level e c (record d { kinds = set d.kinds a kind })
absent_replaceable d t a level e c kind counted most absent =
    record {
      loose = λ stands named. absurd (both_ways (level == 1 && is_loose e) (and_right (level == 1) _ (and_left _ _ absent)) stands);
      links = λ stands named. absurd (both_ways (is_link_level level && is_present e) (and_right (is_link_level level) _ absent) stands);
      loose_room = λ stands inside. loose_room d t counted most (frame_of c) (omega (arith, inside, length-set d.kinds a kind));
      links_room = λ stands inside. links_room d t counted most (frame_of c) (omega (arith, inside, length-set d.kinds a kind));
    }

-- after an entry was replaced
pub counted_replaced : (before after : Descriptors) (t : ℕ → ℕ → ℕ) (a b c : ℕ) → AreCounted before t
    → IsSlotFixed before.kinds t → a < length before.kinds → 1 ≤ level_of (kind_of before.kinds a) → b < 512
    → IsReplaced (level_of (kind_of before.kinds a)) (t a b) c before after → AreCounted after (replaced t a b c)
counted_replaced before after t a b c counted fixed inside table small change =
    record {
      loose = λ frame within.
          let named : frame < length before.kinds = omega (arith, within, ap length change.kinds) in
          let same = ap (λ kinds. loose_in kinds (replaced t a b c) frame) change.kinds in
          omega (arith, counted.loose frame named, change.loose frame named, loose_replaced before.kinds t a b c fixed table inside small frame, same);
      links = λ frame within.
          let named : frame < length before.kinds = omega (arith, within, ap length change.kinds) in
          let same = ap (λ kinds. links_in kinds (replaced t a b c) frame) change.kinds in
          omega (arith, counted.links frame named, change.links frame named, links_replaced before.kinds t a b c fixed table inside small frame, same);
    }

-- over tables of the same entries
pub counted_same : (d : Descriptors) (t u : ℕ → ℕ → ℕ) → AreCounted d t → ((f i : ℕ) → i < 512 → u f i ≡ t f i)
    → AreCounted d u
counted_same d t u counted same =
    record {
      loose = λ frame within. counted.loose frame within ∙ sym (loose_same d.kinds t u same frame);
      links = λ frame within. counted.links frame within ∙ sym (links_same d.kinds t u same frame);
    }

-- over tables that agree in each frame that may hold one
pub counted_elsewhere : (d : Descriptors) (t u : ℕ → ℕ → ℕ) → AreCounted d t → IsSlotFixed d.kinds t
    → ((f i : ℕ) → i < 512 → may_hold_table (kind_of d.kinds f) ≡ true → u f i ≡ t f i) → AreCounted d u
counted_elsewhere d t u counted fixed agree =
    record {
      loose = λ frame within. counted.loose frame within ∙ sym (loose_elsewhere d.kinds t u fixed agree frame);
      links = λ frame within. counted.links frame within ∙ sym (links_elsewhere d.kinds t u fixed agree frame);
    }

-- after a frame with no present entry is of another kind
pub counted_any_kind : (d : Descriptors) (t : ℕ → ℕ → ℕ) (a : ℕ) (kind : Kind) → AreCounted d t
    → ((i : ℕ) → i < 512 → is_present (t a i) ≡ false) → AreCounted (record d { kinds = set d.kinds a kind }) t
counted_any_kind d t a kind counted empty =
    record {
      loose = λ frame within. counted.loose frame (omega (arith, within, length-set d.kinds a kind))
          ∙ sym (loose_any_kind d.kinds t a kind empty frame);
      links = λ frame within. counted.links frame (omega (arith, within, length-set d.kinds a kind))
          ∙ sym (links_any_kind d.kinds t a kind empty frame);
    }
