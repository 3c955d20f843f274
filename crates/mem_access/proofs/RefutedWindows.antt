-- What is no page that is kept, no page of a window and no window, what isn't left of a page, what is no run of bytes
-- that is kept, and which bytes aren't beside the pages that are kept off. Lemmas are named by what they guard.
use Rattle.std.proofs.Common.{◌≡◌, ◌≢◌, ℕ, suc, ◌+◌, ◌-◌, ◌*◌, ◌/◌, ◌%◌, ◌<◌, ◌≤◌, Bool, true, false, List, [], ◌∷◌, length, slice_index_or, inl, inr, is_err, nat_lt, refl, sym, ap, subst, ◌∙◌, arith}
use Rattle.std.specs.Prelude.{Option, Some, None, Result, Ok, Err, ◌||◌, ◌&&◌, ◌==◌, not, if◌then◌else◌}
use Rattle.std.proofs.lemmas.Bool.{false≢true, le-leb, le-ltb}
use Rattle.nk_bits.specs.declared.access.Access.{Access}
use Rattle.nk_bits.specs.declared.access.Access.TheVariants.{Read, Write}
use Rattle.nk_bits.specs.declared.control.Control.{Control}
use Rattle.nk_bits.specs.declared.fault.AccessFault.{AccessFault}
use Rattle.nk_bits.specs.declared.fault.AccessFault.TheVariants.{NonCanonical, Page}
use Rattle.nk_bits.specs.declared.leaf.Leaf.{Leaf}
use Rattle.nk_bits.specs.declared.leaf.Rights.{Rights}
use Rattle.nk_bits.specs.declared.leaf.Target.{Target}
use Rattle.nk_bits.specs.declared.leaf.Upper.{Upper}
use Rattle.nk_bits.specs.AccessRights.{may}
use Rattle.nk_bits.specs.Accesses.{View, accessed, completed, crosses, fault_code, has_canonical_bytes, judged, next_page, place_in, reached, smep_of, wp_of}
use Rattle.nk_bits.specs.Outcomes.{Outcome, and_then, answered, refused, then_by}
use Rattle.nk_bits.specs.Paging.{common, frame_of, is_large, is_missing, is_present, page_index, page_of, rights_of, walk, walk_from}
use Rattle.nk_bits.specs.Translations.{Translations, flushed, look, or_walked}
use Rattle.nk_bits.specs.UpperEntries.{KeptEntry, begun, kept_for, walk_by}
use Rattle.page_walk.specs.MemoryAccess.{view_of}
use Rattle.mem_access.specs.declared.window.KeptPage.{KeptPage}
use Rattle.mem_access.specs.declared.window.Window.{Window}
use Rattle.mem_access.specs.KeptRuns.{IsKeptRun}
use Rattle.mem_access.specs.Windows.{AreBeside, IsKeptPage, IsLeftWithout, IsReadPage, IsWindow, IsWritePage}
use Rattle.mem_access.proofs.KeptLeaves.{held_there}
use Rattle.mem_access.proofs.WorkedWindows.{control, eight, five, last, leaf, none, off, six, size, tlb, whole, window}

-- one byte is on one page
one_byte : (va : ℕ) → crosses va 1 ≡ false
unfolding crosses
one_byte va = le-ltb 4096 (va % 4096 + 1) (omega arith)

module _ (view : View) (access : Access) (tlb : Translations) (va width : ℕ) where
  -- the access, by whether its addresses are canonical
  abbrev by_test : Bool → Outcome AccessFault Target
  by_test b =
      if b then and_then (reached view access tlb va) (completed view access va width) else refused NonCanonical tlb

  -- no access is answered whose page is refused
  unanswered : (target : Target) → is_err (reached view access tlb va).answer ≡ true
      → answered target tlb ≡ accessed view access tlb va width → ⊥
  unfolding accessed
  unanswered target faults same = go (has_canonical_bytes va width) same
    where
      by_answer : (r : Result ℕ AccessFault) (after : Translations) → is_err r ≡ true →
          answered target tlb ≡ then_by r after (completed view access va width) → ⊥
      by_answer (Ok first) after is found = false≢true is
      by_answer (Err fault) after is found = false≢true (ap (λ (o : Outcome AccessFault Target). is_err o.answer) found)

      go : (b : Bool) → answered target tlb ≡ by_test b → ⊥
      go true is = by_answer (reached view access tlb va).answer (reached view access tlb va).tlb faults is
      go false is = false≢true (ap (λ (o : Outcome AccessFault Target). is_err o.answer) is)

  -- nor one with an address that isn't canonical
  not_canonical : (target : Target) → has_canonical_bytes va width ≡ false
      → answered target tlb ≡ accessed view access tlb va width → ⊥
  unfolding accessed
  not_canonical target off same =
      false≢true (ap (λ (o : Outcome AccessFault Target). is_err o.answer) (same ∙ ap (λ b. by_test b) off))

  -- and a page whose translation is kept, but doesn't serve the access, is refused
  unserved : (leaf : Leaf) → look tlb.pairs (page_of va) ≡ Some leaf
      → may access leaf.rights view.cpl view.wp view.smep ≡ false → is_err (reached view access tlb va).answer ≡ true
  unfolding reached
  unserved leaf kept serves =
      ap (λ found.
      let walked = walk_by view.entries view.frames view.root tlb.upper (page_of va) in
      is_err (judged view access va (or_walked found walked))) kept
      ∙ ap (λ b. is_err (if b then Ok (place_in leaf va) else Err (Page (fault_code access view.cpl true) va))) serves

  -- the place that is found is that of its page
  found_there : (place : ℕ) (target : Target) → crosses va width ≡ false
      → reached view access tlb va ≡ answered place tlb
      → answered target tlb ≡ accessed view access tlb va width → target.first ≡ place
  unfolding accessed completed
  found_there place target one there same = go (has_canonical_bytes va width) same
    where
      first_of : Result Target AccessFault → ℕ
      first_of (Ok it) = it.first
      first_of (Err fault) = 0

      go : (b : Bool) → answered target tlb ≡ by_test b → target.first ≡ place
      go true is =
          ap (λ (o : Outcome AccessFault Target). first_of o.answer)
          (is ∙ ap (λ o. and_then o (completed view access va width)) there
          ∙ ap (λ b. if b
          then and_then (reached view access tlb (next_page va))
          (λ second after. answered (record { first = place; second = second }) after)
          else answered (record { first = place; second = 0 }) tlb) one)
      go false is = absurd (false≢true (ap (λ (o : Outcome AccessFault Target). is_err o.answer) is))

-- in a memory without a frame each entry is missing, so no walk finds a page
abbrev is_nothing : Result Leaf ℕ → Bool
is_nothing found = is_err found

module _ (t : ℕ → ℕ → ℕ) (page : ℕ) where
  all_missing : (level e : ℕ) → is_missing 0 level e ≡ true
  unfolding is_missing
  all_missing level e =
      ap (λ b. not (is_present e) || b || ((level == 3 || level == 2) && is_large e))
      (le-leb 0 (frame_of e) (omega arith))
      ∙ go (not (is_present e)) ((level == 3 || level == 2) && is_large e)
    where
      go : (absent large : Bool) → (absent || true || large) ≡ true
      go true large = refl
      go false large = refl

  none_below : (level : ℕ) (it : Upper) → is_nothing (walk_from t 0 page (suc level) it.frame it.rights) ≡ true
  unfolding walk_from
  none_below level it =
      let e : ℕ = t it.frame (page_index page (suc level)) in
      let rights : Rights = common it.rights (rights_of e) in
      ap (λ b. is_nothing (if b then Err (suc level) else walk_from t 0 page level (frame_of e) rights))
      (all_missing (suc level) e)

  none_from_the_root : (root : ℕ) → is_nothing (walk t 0 root page) ≡ true
  unfolding walk
  none_from_the_root root =
      let fourth : ℕ = t root (page_index page 4) in
      let third : ℕ = t (frame_of fourth) (page_index page 3) in
      let second : ℕ = t (frame_of third) (page_index page 2) in
      let first : ℕ = t (frame_of second) (page_index page 1) in
      let upper : Rights = common (common (rights_of fourth) (rights_of third)) (rights_of second) in
      let rights : Rights = common upper (rights_of first) in
      ap (λ b. is_nothing (if b then Err 4 else
      if is_missing 0 3 third then Err 3 else
      if is_missing 0 2 second then Err 2 else
      if is_missing 0 1 first then Err 1 else Ok (record { frame = frame_of first; rights = rights })))
      (all_missing 4 fourth)

  none_begun : (level left : ℕ) (kept : Option Upper) (other : Result Leaf ℕ) → level - 1 ≡ suc left
      → is_nothing other ≡ true → is_nothing (begun t 0 page level kept other) ≡ true
  none_begun level left (Some it) other is fails =
      ap (λ n. is_nothing (walk_from t 0 page n it.frame it.rights)) is ∙ none_below left it
  none_begun level left None other is fails = fails

  none_by_a_walk : (root : ℕ) (upper : List KeptEntry) → is_nothing (walk_by t 0 root upper page) ≡ true
  unfolding walk_by
  none_by_a_walk root upper =
      none_begun 2 0 (kept_for upper 2 page) _ refl
      (none_begun 3 1 (kept_for upper 3 page) _ refl
      (none_begun 4 2 (kept_for upper 4 page) _ refl (none_from_the_root root)))

-- so over such a memory a page of which nothing is kept is refused
not_kept : (control : Control) (cpl : ℕ) (access : Access) (tlb : Translations) (va : ℕ)
    → look tlb.pairs (page_of va) ≡ None → is_err (reached (view_of [] control cpl) access tlb va).answer ≡ true
unfolding reached
not_kept control cpl access tlb va none =
    ap (λ found. is_err (judged view access va (or_walked found walked))) none
    ∙ go walked (none_by_a_walk view.entries (page_of va) view.root tlb.upper)
  where
    view : View
    view = view_of [] control cpl

    walked : Result Leaf ℕ
    walked = walk_by (view_of [] control cpl).entries 0 control.root tlb.upper (page_of va)

    go : (r : Result Leaf ℕ) → is_nothing r ≡ true
        → is_err (judged (view_of [] control cpl) access va (or_walked None r)) ≡ true
    go (Ok leaf) is = absurd (false≢true is)
    go (Err level) is = refl

-- no page that is kept: it doesn't start where a page does, its bytes don't fill a frame of memory, ..
module _ (size : ℕ) (control : Control) (cpl : ℕ) (access : Access) (tlb : Translations) (page : KeptPage)
    (it : IsKeptPage size control cpl access tlb page) where
  a_page_does_not_start_at_1 : page.start ≡ 1 → ⊥
  a_page_does_not_start_at_1 is = let start = it.start in omega (arith, is, start)

  a_page_does_not_start_in_the_middle_of_one : page.start ≡ 0x5800 → ⊥
  a_page_does_not_start_in_the_middle_of_one is = let start = it.start in omega (arith, is, start)

  a_page_is_not_at_half_a_frame : page.base ≡ 0x7800 → ⊥
  a_page_is_not_at_half_a_frame is = let base = it.base in omega (arith, is, base)

  a_page_does_not_end_behind_memory : page.base + 4096 ≡ size + 1 → ⊥
  a_page_does_not_end_behind_memory is = let inside = it.inside in omega (arith, is, inside)

  -- .. the translation that is kept for it doesn't serve the access, ..
  a_page_that_is_not_served_is_not_kept : (leaf : Leaf) → look tlb.pairs (page.start / 4096) ≡ Some leaf →
      may access leaf.rights cpl (wp_of control.cr0) (smep_of control.cr4) ≡ false → ⊥
  a_page_that_is_not_served_is_not_kept leaf kept serves =
      unanswered (view_of [] control cpl) access tlb page.start 1 _
      (unserved (view_of [] control cpl) access tlb page.start 1 leaf kept serves)
      (it.found [] page.start 1 refl (omega arith) (one_byte page.start))

  -- .. or its addresses aren't canonical
  a_page_between_the_canonical_halves_is_not_kept : has_canonical_bytes page.start 1 ≡ false → ⊥
  a_page_between_the_canonical_halves_is_not_kept off =
      not_canonical (view_of [] control cpl) access tlb page.start 1 _ off
      (it.found [] page.start 1 refl (omega arith) (one_byte page.start))

  -- over any memory its last eight bytes are found at the end of its frame
  a_page_does_not_miss_its_last_eight_bytes : (m : List ℕ) →
      answered (record { first = page.base + 4088; second = 0 }) tlb
      ≢ accessed (view_of m control cpl) access tlb (page.start + 4088) 8 → ⊥
  unfolding crosses
  a_page_does_not_miss_its_last_eight_bytes m other =
      let start = it.start in
      let last : (page.start + 4088) % 4096 ≡ 4088 = omega (arith, start) in
      let same : (page.start + 4088) / 4096 ≡ page.start / 4096 = omega (arith, start) in
      other (subst (λ ahead. answered (record { first = page.base + ahead; second = 0 }) tlb
      ≡ accessed (view_of m control cpl) access tlb (page.start + 4088) 8) last
      (it.found m (page.start + 4088) 8 same (omega arith) (ap (λ n. nat_lt 4096 (n + 8)) last)))

  -- its translation is kept: no walk over a memory without tables finds it
  a_page_without_a_translation_is_not_kept : look tlb.pairs (page.start / 4096) ≡ None → ⊥
  a_page_without_a_translation_is_not_kept none =
      unanswered (view_of [] control cpl) access tlb page.start 1 _ (not_kept control cpl access tlb page.start none)
      (it.found [] page.start 1 refl (omega arith) (one_byte page.start))

  -- its bytes are those of the frame that its translation names
  a_page_is_in_no_other_frame : (leaf : Leaf) → look tlb.pairs (page.start / 4096) ≡ Some leaf →
      may access leaf.rights cpl (wp_of control.cr0) (smep_of control.cr4) ≡ true → page.base ≢ 4096 * leaf.frame → ⊥
  a_page_is_in_no_other_frame leaf kept serves other =
      let there = found_there (view_of [] control cpl) access tlb page.start 1 _ _ (one_byte page.start)
      (held_there (view_of [] control cpl) access tlb page.start leaf kept serves)
      (it.found [] page.start 1 refl (omega arith) (one_byte page.start)) in
      other (omega (arith, there))

-- a page that is kept for reads
module _ (size : ℕ) (control : Control) (cpl : ℕ) (tlb : Translations) (page : KeptPage)
    (it : IsReadPage size control cpl tlb page) where
  a_page_for_reads_has_no_room_for_4090 : page.room ≡ 4090 → ⊥
  a_page_for_reads_has_no_room_for_4090 is = let room = it.room in omega (arith, is, room)

  a_page_for_reads_with_room_is_kept : page.room ≡ 1 → (IsKeptPage size control cpl Read tlb page → ⊥) → ⊥
  a_page_for_reads_with_room_is_kept is none = none (it.kept (omega (arith, is)))

-- a page that is kept for writes
module _ (size : ℕ) (control : Control) (cpl : ℕ) (tlb : Translations) (off : List ℕ) (page : KeptPage)
    (it : IsWritePage size control cpl tlb off page) where
  a_page_for_writes_has_no_room_for_4090 : page.room ≡ 4090 → ⊥
  a_page_for_writes_has_no_room_for_4090 is = let room = it.room in omega (arith, is, room)

  a_page_for_writes_with_room_is_kept : page.room ≡ 1 → (IsKeptPage size control cpl Write tlb page → ⊥) → ⊥
  a_page_for_writes_with_room_is_kept is none = none (it.kept (omega (arith, is)))

  a_page_for_writes_with_room_is_read : page.room ≡ 1 → (IsKeptPage size control cpl Read tlb page → ⊥) → ⊥
  a_page_for_writes_with_room_is_read is none = none (it.read (omega (arith, is)))

  -- the supervisor doesn't write to a page that isn't writable, where WP is set
  a_page_for_writes_is_writable : (leaf : Leaf) → page.room ≡ 1 → look tlb.pairs (page.start / 4096) ≡ Some leaf →
      leaf.rights.can_write ≡ false → cpl ≡ 0 → wp_of control.cr0 ≡ true → ⊥
  a_page_for_writes_is_writable leaf is kept fixed supervisor protects =
      a_page_that_is_not_served_is_not_kept size control cpl Write tlb page (it.kept (omega (arith, is))) leaf kept
      (ap (λ k. may Write leaf.rights k (wp_of control.cr0) (smep_of control.cr4)) supervisor
      ∙ ap (λ b. b || not (wp_of control.cr0)) fixed ∙ ap not protects)

  -- it is neither the first nor the last of those that are kept off
  a_page_for_writes_is_not_the_first_kept_off : page.room ≡ 1 → page.base ≡ slice_index_or off 0 0 → ⊥
  a_page_for_writes_is_not_the_first_kept_off is same = it.apart (omega (arith, is)) 0 (omega arith) same

  a_page_for_writes_is_not_the_last_kept_off : page.room ≡ 1 → page.base ≡ slice_index_or off 3 0 → ⊥
  a_page_for_writes_is_not_the_last_kept_off is same = it.apart (omega (arith, is)) 3 (omega arith) same

-- a window with one page that isn't kept so, or with a place that is kept off within a page
module _ (size : ℕ) (control : Control) (cpl : ℕ) (tlb : Translations) (window : Window)
    (it : IsWindow size control cpl tlb window) where
  a_page_of_a_window_for_reads_is_one : (n : ℕ) (none : KeptPage) → n < length window.read →
      (IsReadPage size control cpl tlb (slice_index_or window.read n none) → ⊥) → ⊥
  a_page_of_a_window_for_reads_is_one n none less other = other (it.read n none less)

  a_page_of_a_window_for_writes_is_one : (n : ℕ) (none : KeptPage) → n < length window.write →
      (IsWritePage size control cpl tlb window.off (slice_index_or window.write n none) → ⊥) → ⊥
  a_page_of_a_window_for_writes_is_one n none less other = other (it.write n none less)

  no_page_of_a_window_for_writes_is_kept_off : (n : ℕ) (none : KeptPage) → n < length window.write →
      (slice_index_or window.write n none).room ≡ 1
      → (slice_index_or window.write n none).base ≡ slice_index_or window.off 2 0 → ⊥
  no_page_of_a_window_for_writes_is_kept_off n none less room same =
      (it.write n none less).apart (omega (arith, room)) 2 (omega arith) same

  no_place_within_a_page_is_kept_off : (i : ℕ) → slice_index_or window.off i 0 ≡ 0x5800 → ⊥
  no_place_within_a_page_is_kept_off i is = let off = it.off i in omega (arith, is, off)

-- bytes of which one is on a page that is kept off
module _ (places : List ℕ) (first width : ℕ) (it : AreBeside places first width) where
  the_first_byte_is_not_the_first_of_a_page_kept_off :
      slice_index_or places 0 0 ≡ 0x5000 → first ≡ 0x5000 → 1 ≤ width → ⊥
  the_first_byte_is_not_the_first_of_a_page_kept_off is same some =
      elim (it 0 (omega arith)) [
        | inl below ↦ omega (arith, is, same, some, below)
        | inr above ↦ omega (arith, is, same, above)
      ]

  the_first_byte_is_not_the_last_of_a_page_kept_off :
      slice_index_or places 3 0 ≡ 0x5000 → first ≡ 0x5FFF → 1 ≤ width → ⊥
  the_first_byte_is_not_the_last_of_a_page_kept_off is same some =
      elim (it 3 (omega arith)) [
        | inl below ↦ omega (arith, is, same, some, below)
        | inr above ↦ omega (arith, is, same, above)
      ]

  the_last_byte_is_not_the_first_of_a_page_kept_off :
      slice_index_or places 1 0 ≡ 0x5000 → first ≡ 0x4FF9 → width ≡ 8 → ⊥
  the_last_byte_is_not_the_first_of_a_page_kept_off is same eight =
      elim (it 1 (omega arith)) [
        | inl below ↦ omega (arith, is, same, eight, below)
        | inr above ↦ omega (arith, is, same, above)
      ]

  -- nor do they lie around one
  no_page_kept_off_is_among_the_bytes : slice_index_or places 2 0 ≡ 0x5000 → first ≡ 0x4000 → width ≡ 0x3000 → ⊥
  no_page_kept_off_is_among_the_bytes is same wide =
      elim (it 2 (omega arith)) [
        | inl below ↦ omega (arith, is, same, wide, below)
        | inr above ↦ omega (arith, is, same, above)
      ]

-- what isn't left of a page: more than it was, a part of it, another page, and the page itself at the place
module _ (place : ℕ) (before after : KeptPage) (it : IsLeftWithout place before after) where
  no_room_is_won : after.room ≡ before.room + 1 → ⊥
  no_room_is_won more = let room = it.room in omega (arith, more, room)

  no_room_is_lost_but_all : before.room ≡ 2 → after.room ≡ 1 → ⊥
  no_room_is_lost_but_all two one =
      let same : after.room ≡ before.room = ap (λ (p : KeptPage). p.room) (it.same (omega (arith, one))) in
      omega (arith, two, one, same)

  no_other_page_is_left : after.room ≡ 1 → after ≢ before → ⊥
  no_other_page_is_left is other = other (it.same (omega (arith, is)))

  no_page_elsewhere_is_left : after.room ≡ 1 → after.base ≡ before.base + 4096 → ⊥
  no_page_elsewhere_is_left is next =
      let same : after.base ≡ before.base = ap (λ (p : KeptPage). p.base) (it.same (omega (arith, is))) in
      omega (arith, next, same)

  no_page_is_left_at_the_place : after.room ≡ 1 → before.base ≡ place → ⊥
  no_page_is_left_at_the_place is there = it.apart (omega (arith, is)) there

-- no run of bytes that is kept: it ends on another page or behind memory, or its bytes are elsewhere in their frame
module _ (size : ℕ) (control : Control) (cpl : ℕ) (access : Access) (tlb : Translations) (va count place : ℕ)
    (it : IsKeptRun size control cpl access tlb va count place) where
  a_run_does_not_end_on_the_next_page : va % 4096 + count ≡ 4097 → ⊥
  a_run_does_not_end_on_the_next_page is = let page = it.page in omega (arith, is, page)

  a_run_is_not_one_byte_late_in_its_frame : place % 4096 ≡ va % 4096 + 1 → ⊥
  a_run_is_not_one_byte_late_in_its_frame is = let agrees = it.agrees in omega (arith, is, agrees)

  a_run_is_not_half_a_frame_late : place % 4096 ≡ va % 4096 + 2048 → ⊥
  a_run_is_not_half_a_frame_late is = let agrees = it.agrees in omega (arith, is, agrees)

  a_run_does_not_end_behind_memory : place + count ≡ size + 1 → ⊥
  a_run_does_not_end_behind_memory is = let inside = it.inside in omega (arith, is, inside)

  -- bytes within it lie on one page
  no_bytes_of_a_run_cross : (offset width : ℕ) → offset + width ≤ count → crosses (va + offset) width ≡ true → ⊥
  no_bytes_of_a_run_cross offset width within over = false≢true (sym (it.one offset width within) ∙ over)

  -- over any memory each of its bytes is found where it stands in the row
  a_run_does_not_miss_its_last_byte : (m : List ℕ) (offset : ℕ) → count ≡ offset + 1 →
      answered (record { first = place + offset; second = 0 }) tlb
      ≢ accessed (view_of m control cpl) access tlb (va + offset) 1 → ⊥
  a_run_does_not_miss_its_last_byte m offset last other =
      other (it.found m offset 1 (omega arith) (omega (arith, last)))

  a_run_does_not_miss_its_last_eight_bytes : (m : List ℕ) (offset : ℕ) → count ≡ offset + 8 →
      answered (record { first = place + offset; second = 0 }) tlb
      ≢ accessed (view_of m control cpl) access tlb (va + offset) 8 → ⊥
  a_run_does_not_miss_its_last_eight_bytes m offset last other =
      other (it.found m offset 8 (omega arith) (omega (arith, last)))

  -- as those of a page, they are found by a translation that is kept and serves the access, in the frame that it names
  a_run_that_is_not_served_is_not_kept : (leaf : Leaf) → 1 ≤ count → look tlb.pairs ((va + 0) / 4096) ≡ Some leaf →
      may access leaf.rights cpl (wp_of control.cr0) (smep_of control.cr4) ≡ false → ⊥
  a_run_that_is_not_served_is_not_kept leaf some kept serves =
      unanswered (view_of [] control cpl) access tlb (va + 0) 1 _
      (unserved (view_of [] control cpl) access tlb (va + 0) 1 leaf kept serves)
      (it.found [] 0 1 (omega arith) (omega (arith, some)))

  a_run_without_a_translation_is_not_kept : 1 ≤ count → look tlb.pairs ((va + 0) / 4096) ≡ None → ⊥
  a_run_without_a_translation_is_not_kept some none =
      unanswered (view_of [] control cpl) access tlb (va + 0) 1 _ (not_kept control cpl access tlb (va + 0) none)
      (it.found [] 0 1 (omega arith) (omega (arith, some)))

  a_run_is_in_no_other_frame : (leaf : Leaf) → 1 ≤ count → look tlb.pairs ((va + 0) / 4096) ≡ Some leaf →
      may access leaf.rights cpl (wp_of control.cr0) (smep_of control.cr4) ≡ true → place / 4096 ≢ leaf.frame → ⊥
  a_run_is_in_no_other_frame leaf some kept serves other =
      let there = found_there (view_of [] control cpl) access tlb (va + 0) 1 _ _ (one_byte (va + 0))
      (held_there (view_of [] control cpl) access tlb (va + 0) leaf kept serves)
      (it.found [] 0 1 (omega arith) (omega (arith, some))) in
      other (omega (arith, there))

-- Pages, windows, bytes and runs that differ from good ones in one part alone: those are of WorkedWindows.
five_from_1 : IsKeptPage size control 0 Read tlb (record five { start = 1 }) → ⊥
five_from_1 it = a_page_does_not_start_at_1 size control 0 Read tlb (record five { start = 1 }) it refl

five_from_half_a_frame_on : IsKeptPage size control 0 Read tlb (record five { base = 0x7800 }) → ⊥
five_from_half_a_frame_on it =
    a_page_is_not_at_half_a_frame size control 0 Read tlb (record five { base = 0x7800 }) it refl

five_one_byte_over_the_end : IsKeptPage 0x7FFF control 0 Read tlb five → ⊥
five_one_byte_over_the_end it = a_page_does_not_end_behind_memory 0x7FFF control 0 Read tlb five it refl

five_in_the_frame_of_six : IsKeptPage size control 0 Read tlb (record five { base = 0x9000 }) → ⊥
unfolding wp_of smep_of
five_in_the_frame_of_six it =
    a_page_is_in_no_other_frame size control 0 Read tlb (record five { base = 0x9000 }) it (leaf 7 true false) refl refl
    (λ e. omega (arith, e))

-- nothing is kept of page 4, and after a flush nothing of page 5
four : IsKeptPage size control 0 Read tlb (record five { start = 0x4000 }) → ⊥
four it = a_page_without_a_translation_is_not_kept size control 0 Read tlb (record five { start = 0x4000 }) it refl

five_after_a_flush : IsKeptPage size control 0 Read flushed five → ⊥
five_after_a_flush it = a_page_without_a_translation_is_not_kept size control 0 Read flushed five it refl

-- a translation may be kept of a page whose addresses aren't canonical: none of its bytes is found
first_between_the_halves : (after : Translations)
    → IsKeptPage size control 0 Read after (whole 0x800000000000 0x7000) → ⊥
unfolding has_canonical_bytes
first_between_the_halves after it =
    a_page_between_the_canonical_halves_is_not_kept size control 0 Read after (whole 0x800000000000 0x7000) it refl

-- page 6 isn't written where WP is set, page 5 isn't read by the user, and the user page isn't written by it
six_written : IsKeptPage size control 0 Write tlb six → ⊥
unfolding wp_of smep_of
six_written it = a_page_that_is_not_served_is_not_kept size control 0 Write tlb six it (leaf 9 false false) refl refl

five_read_by_the_user : IsKeptPage size control 3 Read tlb five → ⊥
unfolding wp_of smep_of
five_read_by_the_user it =
    a_page_that_is_not_served_is_not_kept size control 3 Read tlb five it (leaf 7 true false) refl refl

eight_written_by_the_user : IsKeptPage size control 3 Write tlb eight → ⊥
unfolding wp_of smep_of
eight_written_by_the_user it =
    a_page_that_is_not_served_is_not_kept size control 3 Write tlb eight it (leaf 12 false true) refl refl

-- pages of a window
five_with_room_for_4090 : IsReadPage size control 0 tlb (record five { room = 4090 }) → ⊥
five_with_room_for_4090 it =
    a_page_for_reads_has_no_room_for_4090 size control 0 tlb (record five { room = 4090 }) it refl

five_with_room_for_4090_writes : IsWritePage size control 0 tlb off (record five { room = 4090 }) → ⊥
five_with_room_for_4090_writes it =
    a_page_for_writes_has_no_room_for_4090 size control 0 tlb off (record five { room = 4090 }) it refl

four_for_reads : IsReadPage size control 0 tlb (record five { start = 0x4000 }) → ⊥
four_for_reads it = four (it.kept (omega arith))

six_for_writes : IsWritePage size control 0 tlb (0 ∷ 0 ∷ 0 ∷ 0 ∷ []) six → ⊥
six_for_writes it = six_written (it.kept (omega arith))

five_kept_off : IsWritePage size control 0 tlb (0xD000 ∷ 0xD000 ∷ 0xD000 ∷ 0x7000 ∷ []) five → ⊥
five_kept_off it = it.apart (omega arith) 3 (omega arith) refl

-- windows
window_with_four_for_reads :
    IsWindow size control 0 tlb (record window {
      read = none ∷ none ∷ none ∷ none ∷ record five { start = 0x4000 } ∷ five ∷ six ∷ none ∷ [];
    }) → ⊥
window_with_four_for_reads it = four_for_reads (it.read 4 none (omega arith))

window_with_four_for_writes :
    IsWindow size control 0 tlb (record window {
      write = none ∷ none ∷ none ∷ none ∷ record five { start = 0x4000 } ∷ five ∷ none ∷ last ∷ [];
    }) → ⊥
window_with_four_for_writes it = four ((it.write 4 none (omega arith)).read (omega arith))

window_that_keeps_five_off :
    IsWindow size control 0 tlb (record window { off = 0x9000 ∷ 0x7000 ∷ 0xD000 ∷ 0xD000 ∷ [] }) → ⊥
window_that_keeps_five_off it = (it.write 5 none (omega arith)).apart (omega arith) 1 (omega arith) refl

window_that_keeps_the_middle_of_a_page_off :
    IsWindow size control 0 tlb (record window { off = 0x9000 ∷ 0xD000 ∷ 0xD000 ∷ 0xD800 ∷ [] }) → ⊥
window_that_keeps_the_middle_of_a_page_off it = let off = it.off 3 in omega (arith, off)

window_after_a_flush : IsWindow size control 0 flushed window → ⊥
window_after_a_flush it = five_after_a_flush ((it.read 5 none (omega arith)).kept (omega arith))

window_of_the_user : IsWindow size control 3 tlb window → ⊥
window_of_the_user it = five_read_by_the_user ((it.read 5 none (omega arith)).kept (omega arith))

-- bytes that reach one byte into a page kept off, from below and from above
one_byte_into_a_page : AreBeside off 0x8FF9 8 → ⊥
one_byte_into_a_page it =
    elim (it 0 (omega arith)) [
      | inl below ↦ omega (arith, below)
      | inr above ↦ omega (arith, above)
    ]

from_the_last_byte_of_a_page_on : AreBeside off 0xDFFF 1 → ⊥
from_the_last_byte_of_a_page_on it =
    elim (it 1 (omega arith)) [
      | inl below ↦ omega (arith, below)
      | inr above ↦ omega (arith, above)
    ]

-- what isn't left of page 5
five_left_at_its_place : IsLeftWithout 0x7000 five five → ⊥
five_left_at_its_place it = it.apart (omega arith) refl

six_left_of_five : IsLeftWithout 0x9000 five six → ⊥
six_left_of_five it =
    let same : 0x9000 ≡ 0x7000 = ap (λ (p : KeptPage). p.base) (it.same (omega arith)) in omega (arith, same)

half_of_five_left : IsLeftWithout 0x9000 five (record five { room = 2000 }) → ⊥
half_of_five_left it =
    let same : 2000 ≡ 4089 = ap (λ (p : KeptPage). p.room) (it.same (omega arith)) in omega (arith, same)

five_left_of_none : IsLeftWithout 0x9000 none five → ⊥
five_left_of_none it = let room = it.room in omega (arith, room)

-- runs: of one byte too many, one byte late, in a memory one byte too small, elsewhere, and of the other page
run_over_the_end : IsKeptRun size control 0 Read tlb 0x5FF9 8 0x7FF9 → ⊥
run_over_the_end it = a_run_does_not_end_on_the_next_page size control 0 Read tlb 0x5FF9 8 0x7FF9 it refl

late_run : IsKeptRun size control 0 Write tlb 0x5000 8 0x7001 → ⊥
late_run it = a_run_is_not_one_byte_late_in_its_frame size control 0 Write tlb 0x5000 8 0x7001 it refl

run_behind_memory : IsKeptRun 0x7007 control 0 Write tlb 0x5000 8 0x7000 → ⊥
run_behind_memory it = a_run_does_not_end_behind_memory 0x7007 control 0 Write tlb 0x5000 8 0x7000 it refl

run_in_another_frame : IsKeptRun size control 0 Write tlb 0x5000 8 0x9000 → ⊥
unfolding wp_of smep_of
run_in_another_frame it =
    a_run_is_in_no_other_frame size control 0 Write tlb 0x5000 8 0x9000 it (leaf 7 true false) (omega arith) refl refl
    (λ e. omega (arith, e))

written_run_of_six : IsKeptRun size control 0 Write tlb 0x6000 8 0x9000 → ⊥
unfolding wp_of smep_of
written_run_of_six it =
    a_run_that_is_not_served_is_not_kept size control 0 Write tlb 0x6000 8 0x9000 it (leaf 9 false false) (omega arith)
    refl refl

run_of_four : IsKeptRun size control 0 Read tlb 0x4000 8 0x7000 → ⊥
run_of_four it = a_run_without_a_translation_is_not_kept size control 0 Read tlb 0x4000 8 0x7000 it (omega arith) refl
