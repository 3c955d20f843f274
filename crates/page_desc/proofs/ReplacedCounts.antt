-- The counts of descriptors after one field of each list was changed, as one change of the descriptors.
use Rattle.std.proofs.Common.{◌≡◌, ℕ, ◌+◌, ◌-◌, ◌/◌, ◌<◌, ◌≤◌, ◌^◌, Bool, true, false, ◌&&◌, ◌==◌, List, length, get_or, arith, refl, sym, ap, subst, ◌∙◌, inl, inr}
use Rattle.nk_bits.specs.Paging.{frame_of, is_present}
use Rattle.page_desc.specs.DescriptorBytes.{HoldsDescriptors, descriptors_in, field_in, kinds_in}
use Rattle.page_desc.specs.FieldChanges.{DiffersInField}
use Rattle.page_desc.specs.FrameCounts.{is_link_level, is_loose, count_if}
use Rattle.page_desc.specs.FrameDescriptors.{IsReplaceable, IsReplaced}
use Rattle.page_desc.proofs.DescriptorValues.{descriptor_count, frames_in, kinds_alike, links_within, loose_within}

and_assoc : (a b c : Bool) → ((a && b) && c) ≡ (a && (b && c))
and_assoc true b c = refl
and_assoc false b c = refl

-- the test and the frame, as the code has them and as the definition has them
as_counted : (test counts was : Bool) (frame from other : ℕ) → was ≡ (test && counts) → from ≡ frame
    → count_if (was && from == other) ≡ count_if (test && (counts && frame == other))
as_counted test counts was frame from other stands named =
    ap (λ b. count_if (b && from == other)) stands ∙ ap (λ k. count_if ((test && counts) && k == other)) named
    ∙ ap count_if (and_assoc test counts (frame == other))

module _ (frames : ℕ) (m : List ℕ) (held : HoldsDescriptors frames m) (level old new : ℕ)
    (lawful : IsReplaceable level old new (descriptors_in m)) where
  -- what the change of each list asks
  named_in : (from e : ℕ) → from ≡ frame_of e → from < frames → frame_of e < length (kinds_in m)
  named_in from e named inside = omega (arith, named, inside, (descriptor_count frames m held).0)

  within : (f : ℕ) → f < frames → f < length m / 4096
  within f inside = omega (arith, inside, frames_in frames m held)

  pub loose_counted : (was : Bool) (from : ℕ) → was ≡ (level == 1 && is_loose old) → from ≡ frame_of old
      → was ≡ true → from < frames → 1 ≤ field_in m 4 from
  loose_counted was from stands named is inside =
      subst (λ k. 1 ≤ k) (loose_within m from (within from inside))
      (subst (λ k. 1 ≤ get_or (descriptors_in m).loose k 0) (sym named)
      (lawful.loose (sym stands ∙ is) (named_in from old named inside)))

  pub loose_room : (will : Bool) (to : ℕ) → will ≡ (level == 1 && is_loose new) → to ≡ frame_of new
      → will ≡ true → to < frames → field_in m 4 to < 2 ^ 32 - 1
  loose_room will to stands named is inside =
      subst (λ k. k < 2 ^ 32 - 1) (loose_within m to (within to inside))
      (subst (λ k. get_or (descriptors_in m).loose k 0 < 2 ^ 32 - 1) (sym named)
      (lawful.loose_room (sym stands ∙ is) (named_in to new named inside)))

  module _ (mid : List ℕ) (first : DiffersInField frames 4 m mid) where
    links_first : (f : ℕ) → f < frames → field_in mid 8 f ≡ get_or (descriptors_in m).links f 0
    links_first f inside =
        first.others 8 f (inr (omega arith)) (omega arith) inside ∙ sym (links_within m f (within f inside))

    pub links_counted : (was : Bool) (from : ℕ) → was ≡ (is_link_level level && is_present old) → from ≡ frame_of old
        → was ≡ true → from < frames → 1 ≤ field_in mid 8 from
    links_counted was from stands named is inside =
        subst (λ k. 1 ≤ k) (sym (links_first from inside))
        (subst (λ k. 1 ≤ get_or (descriptors_in m).links k 0) (sym named)
        (lawful.links (sym stands ∙ is) (named_in from old named inside)))

    pub links_room : (will : Bool) (to : ℕ) → will ≡ (is_link_level level && is_present new) → to ≡ frame_of new
        → will ≡ true → to < frames → field_in mid 8 to < 2 ^ 32 - 1
    links_room will to stands named is inside =
        subst (λ k. k < 2 ^ 32 - 1) (sym (links_first to inside))
        (subst (λ k. get_or (descriptors_in m).links k 0 < 2 ^ 32 - 1) (sym named)
        (lawful.links_room (sym stands ∙ is) (named_in to new named inside)))

-- one list changed by the code's tests: field by field
pub record IsChanged (frames at : ℕ) (was will : Bool) (from to : ℕ) (before after : List ℕ) : Type 0 where
  pub each : (other : ℕ) → other < frames
      → field_in after at other + count_if (was && from == other) ≡ field_in before at other + count_if (will && to == other)
  pub differs : DiffersInField frames at before after

-- the tests and frames of an entry that was and of one that will be
pub record AreTests (test was_one will_one was will : Bool) (old new from to : ℕ) : Type 0 where
  pub was_is : was ≡ (test && was_one)
  pub will_is : will ≡ (test && will_one)
  pub from_is : from ≡ frame_of old
  pub to_is : to ≡ frame_of new

change_is : (frames at : ℕ) (test was_one will_one was will : Bool) (old new from to : ℕ) (before after : List ℕ)
    → AreTests test was_one will_one was will old new from to → IsChanged frames at was will from to before after
    → (other : ℕ) → other < frames
    → field_in after at other + count_if (test && (was_one && frame_of old == other)) ≡ field_in before at other + count_if (test && (will_one && frame_of new == other))
change_is frames at test was_one will_one was will old new from to before after tests changed other inside =
    omega (
      arith,
      changed.each other inside,
      as_counted test was_one was (frame_of old) from other tests.was_is tests.from_is,
      as_counted test will_one will (frame_of new) to other tests.will_is tests.to_is,
    )

pub counts_replaced : (frames level old new from to from2 to2 : ℕ) (loose_was loose_will links_was links_will : Bool) (m mid n : List ℕ)
    → HoldsDescriptors frames m
    → AreTests (level == 1) (is_loose old) (is_loose new) loose_was loose_will old new from to
    → AreTests (is_link_level level) (is_present old) (is_present new) links_was links_will old new from2 to2
    → IsChanged frames 4 loose_was loose_will from to m mid → IsChanged frames 8 links_was links_will from2 to2 mid n
    → IsReplaced level old new (descriptors_in m) (descriptors_in n)
counts_replaced frames level old new from to from2 to2 loose_was loose_will links_was links_will m mid n held leaf link first second = record {
  kinds = kinds_alike m n size (λ f inside.
      let here : f < frames = omega (arith, inside, frames_in frames m held) in
      second.differs.others 0 f (inl (omega arith)) (omega arith) here ∙ first.differs.others 0 f (inl (omega arith)) (omega arith) here);
  loose = λ frame inside.
      let here : frame < frames = omega (arith, inside, (descriptor_count frames m held).0) in
      let before : get_or (descriptors_in m).loose frame 0 ≡ field_in m 4 frame = loose_within m frame (omega (arith, here, frames_in frames m held)) in
      let after : get_or (descriptors_in n).loose frame 0 ≡ field_in mid 4 frame =
      loose_within n frame (omega (arith, here, frames_in frames m held, size)) ∙ second.differs.others 4 frame (inl (omega arith)) (omega arith) here in
      omega (arith, before, after, change_is frames 4 (level == 1) (is_loose old) (is_loose new) loose_was loose_will old new from to m mid leaf first frame here);
  links = λ frame inside.
      let here : frame < frames = omega (arith, inside, (descriptor_count frames m held).0) in
      let before : get_or (descriptors_in m).links frame 0 ≡ field_in mid 8 frame =
      links_within m frame (omega (arith, here, frames_in frames m held)) ∙ sym (first.differs.others 8 frame (inr (omega arith)) (omega arith) here) in
      let after : get_or (descriptors_in n).links frame 0 ≡ field_in n 8 frame = links_within n frame (omega (arith, here, frames_in frames m held, size)) in
      omega (arith, before, after, change_is frames 8 (is_link_level level) (is_present old) (is_present new) links_was links_will old new from2 to2 mid n link second frame here);
}
  where
    size : length n ≡ length m
    size = second.differs.size ∙ first.differs.size
