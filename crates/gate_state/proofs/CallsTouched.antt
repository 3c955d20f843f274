-- What a call leaves of memory, the books in it: every byte outside the frames that it is told to touch.
use Rattle.std.proofs.Common.{◌≡◌, ◌≢◌, ◌⊎◌, ℕ, suc, ◌+◌, ◌-◌, ◌*◌, ◌/◌, ◌%◌, ◌<◌, ◌≤◌, Bool, true, false, not, ◌&&◌, List, [], ◌∷◌, length, map, All, arith, refl, sym, ap, subst, ◌∙◌, inl, inr}
use Rattle.std.specs.Prelude.{nat_le, nat_lt, cond, if◌then◌else◌, slice_index, replicate, Option, None, Some, ◌==◌}
use Rattle.std.specs.List.{find, range_with_len}
use Rattle.std.proofs.lemmas.Bool.{and_parts, and_right, cases_eq, cases_lt, false≢true, le-ltb, leb-true, ltb-false, ltb-true, not-false}
use Rattle.std.proofs.lemmas.Option.{same_Some}
use Rattle.std.proofs.lemmas.List.{get_or_past}
use Rattle.std.proofs.lemmas.List.Elements.{All-cons, All-nil, All-weaker}
use Rattle.std.proofs.lemmas.List.FromFn.{get_or-range_with_len, length-map-range_with_len, length-range_with_len}
use Rattle.nk_bits.specs.declared.rule.Rule.{Rule}
use Rattle.nk_bits.specs.declared.rule.Rule.TheVariants.{BadFrame, BadIndex, NotTable}
use Rattle.nk_bits.specs.KernelLayout.{pool_start}
use Rattle.nk_bits.specs.Kinds.{kind_of}
use Rattle.phys_mem.specs.MaskedMemory.{is_book_frame, seen}
use Rattle.phys_mem.specs.MaskLaws.{MaskLaws}
use Rattle.phys_mem.specs.Memory.{byte_at, frame_zeroed, stored, stores}
use Rattle.phys_mem.specs.MemoryLaws.{FrameLaws, MemoryLaws}
use Rattle.page_desc.specs.DescriptorBytes.{descriptors_in, kinds_in}
use Rattle.page_desc.specs.FrameDescriptors.{last_value}
use Rattle.page_desc.specs.PageTables.{Tables, is_table}
use Rattle.vmmu.specs.TableCalls.{declare_rule, entry_rule, is_outside, remove_rule}
use Rattle.policy_book.specs.PolicyRules.{stores_by, stores_written}
use Rattle.region_book.specs.RegionCalls.{fits_in, fits_region, is_range_taken, pool_region, room}
use Rattle.region_book.specs.RegionRecords.{Book, IsBook, IsRegion, RegionRecord, byte_place, region_of, region_stores}
use Rattle.nk_body.specs.declared.call.Call.{Call}
use Rattle.nk_body.specs.declared.call.Call.TheVariants.{Allocate, DeclarePages, DeclareTable, Free, LoadRoot, NoCall, RemoveTable, SetHandler, Write, WriteEntry}
use Rattle.nk_body.specs.CallRules.{Bytes, IsSourceOf, NotTaken, Sourced, Unreadable, accepted_memory, bytes_read, memory_after_call, verdict, wants, written_unless, zeros_of}
use Rattle.nk_body.specs.NestedRecord.{HoldsBooks, Nested, OwnState, books_in, nested_held}
use Rattle.gate_state.specs.declared.touched.StepTouched.TheVariants.{Any, Body}
use Rattle.gate_state.specs.StepsTouched.{LiesOutside, KeepsOutside, own_frames, touched_by_call, touched_by_write, touched_in}

pub record TouchLaws : Type 0 where
  pub memory : MemoryLaws
  pub frame : FrameLaws
  pub mask : MaskLaws

-- What rules say that aren't broken.

-- the first rule of a list isn't broken, nor a later one
none_broken : (b : Bool) (rule : Rule) (later : Option Rule) → (if b then Some rule else later) ≡ None
    → (b ≡ false) × (later ≡ None)
none_broken true rule later is = let no : Some rule ≡ None = is in cc
none_broken false rule later is = (refl, is)

inside : (t : Tables) (frame : ℕ) → is_outside t frame ≡ false → frame < length t.kinds
inside t frame is = ltb-true frame (length t.kinds) (not-false (nat_lt frame (length t.kinds)) is)

declared_inside : (t : Tables) (level frame : ℕ) → declare_rule t level frame ≡ None → frame < length t.kinds
unfolding declare_rule
declared_inside t level frame is = inside t frame (none_broken (is_outside t frame) BadFrame _ is).0

removed_inside : (t : Tables) (frame : ℕ) → remove_rule t frame ≡ None → frame < length t.kinds
unfolding remove_rule
removed_inside t frame is = inside t frame (none_broken (is_outside t frame) BadFrame _ is).0

entry_inside : (t : Tables) (frame index value : ℕ) → entry_rule t frame index value ≡ None → index ≤ 511
unfolding entry_rule
entry_inside t frame index value is =
    let a = none_broken (is_outside t frame) BadFrame _ is in
    let b = none_broken (not (is_table (kind_of t.kinds frame))) NotTable _ a.1 in
    let c = none_broken (nat_lt 511 index) BadIndex _ b.1 in
    ltb-false 511 index c.0

-- What is found in a list.

-- the element that is found passes the test, and what holds of each holds of it
found_first : {X : Type 0} (p : X → Bool) (y : X) (xs : List X) (x : X) (here : Bool) → p y ≡ here
    → cond here (Some y) (find p xs) ≡ Some x → (find p xs ≡ Some x → (p x ≡ true) × ((P : X → Type 0) → All P xs → P x))
    → (p x ≡ true) × ((P : X → Type 0) → All P (y ∷ xs) → P x)
found_first p y xs x true here is later =
    let same = same_Some y x is in
    (ap p (sym same) ∙ here, λ P all. subst P same (all 0 y (omega arith)))
found_first p y xs x false here is later =
    let found = later is in (found.0, λ P all. found.1 P (λ i d below. all (suc i) d (omega (arith, below))))

found_is : {X : Type 0} (p : X → Bool) (xs : List X) (x : X) → find p xs ≡ Some x
    → (p x ≡ true) × ((P : X → Type 0) → All P xs → P x)
found_is p [] x found = let no : None ≡ Some x = found in cc
found_is p (y ∷ xs) x found = found_first p y xs x (p y) refl found (λ later. found_is p xs x later)

-- a region that lives is one of a sound book's
region_is : (book : Book) → IsBook book → (id : ℕ) (r : RegionRecord) → region_of book id ≡ Some r
    → IsRegion book.next r
region_is book sound id r found =
    (found_is (λ x. x.id == id) book.regions r found).1 (IsRegion book.next) sound.each

-- a place of the pool has room for the region
room_inside : (regions : List RegionRecord) (size p : ℕ) → room regions size ≡ Some p → p + size ≤ 65536
unfolding room
room_inside regions size p found =
    let fits : ℕ → Bool = λ p. nat_le (p + size) 65536 && not (is_range_taken regions size p) in
    let passes = (found_is fits (map (λ k. 16 * k) (range_with_len 0 4096)) p found).0 in
    leb-true (p + size) 65536 (and_parts (nat_le (p + size) 65536) (not (is_range_taken regions size p)) passes).0

-- Where the bytes of a region stand.

stores_all : (P : ℕ → Type 0) (r : RegionRecord) (offset : ℕ) (bytes : List ℕ)
    → ((k : ℕ) → offset ≤ k → k < offset + length bytes → P (byte_place r k))
    → All (λ w. P w.0) (region_stores r offset bytes)
unfolding region_stores
stores_all P r offset [] each = All-nil (λ (w : ℕ × ℕ). P w.0)
stores_all P r offset (b ∷ bytes) each =
    All-cons (λ (w : ℕ × ℕ). P w.0) (byte_place r offset, b) (region_stores r (offset + 1) bytes)
    (each offset (omega arith) (omega arith))
    (stores_all P r (offset + 1) bytes (λ k least most. each k (omega (arith, least)) (omega (arith, most))))

no_stores : (r : RegionRecord) (offset : ℕ) → region_stores r offset [] ≡ []
unfolding region_stores
no_stores r offset = refl

place_frame : (r : RegionRecord) (k : ℕ) → byte_place r k / 4096 ≡ slice_index r.frames ((r.place + k) / 4096)
place_frame r k = omega arith

-- each of a run of frames
run_low : (first n i most : ℕ) → first + n ≤ most → slice_index (range_with_len first n) i < most + 1
run_low first n i most within = elim (cases_lt i n) [
  | inl here ↦ omega (arith, get_or-range_with_len first n i 0 here, here, within)
  | inr past ↦
      let out : length (range_with_len first n) ≤ i = omega (arith, past, length-range_with_len first n) in
      omega (arith, get_or_past (range_with_len first n) i 0 out)
]

-- those of a region of the pool in its frames, below frame 64
pooled_low : (next : ℕ) (r : RegionRecord) → IsRegion next r → r.pooled ≡ true → (k : ℕ) → byte_place r k / 4096 < 64
pooled_low next r is pooled k =
    let facts = is.pooled pooled in
    let first : ℕ = r.first - pool_start in
    let n : ℕ = (r.place + r.size + 4095) / 4096 in
    let i : ℕ = (r.place + k) / 4096 in
    let fits : first + r.size ≤ 65536 = omega (arith, facts.0, facts.1) in
    let low : slice_index (range_with_len (10 + first / 4096) n) i < 27 =
    run_low (10 + first / 4096) n i 26 (omega (arith, facts.2, fits)) in
    omega (arith, place_frame r k, ap (λ fs. slice_index fs i) facts.3, low)

-- those of a new region of the pool too
allocated_low : (book : Book) (size policy p : ℕ) → p + size ≤ 65536 → (k : ℕ)
    → byte_place (pool_region book size policy p) k / 4096 < 64
allocated_low book size policy p fits k =
    let n : ℕ = (p % 4096 + size + 4095) / 4096 in
    let low : slice_index (range_with_len (10 + p / 4096) n) ((p % 4096 + k) / 4096) < 27 =
    run_low (10 + p / 4096) n ((p % 4096 + k) / 4096) 26 (omega (arith, fits)) in
    omega (arith, place_frame (pool_region book size policy p) k, low)

-- those of whole pages stand in the frame of the first one or in that of the last one, where no page lies between them
two_frames : (r : RegionRecord) → r.place ≡ 0 → (offset k last : ℕ) → offset ≤ k → k ≤ last
    → last / 4096 ≤ offset / 4096 + 1
    → (byte_place r k / 4096 ≡ byte_place r offset / 4096) ⊎ (byte_place r k / 4096 ≡ byte_place r last / 4096)
two_frames r whole offset k last low high near = elim (cases_eq (k / 4096) (offset / 4096)) [
  | inl first ↦ inl (same offset first)
  | inr other ↦ inr (same last (omega (arith, low, high, near, other)))
]
  where
    same : (at : ℕ) → k / 4096 ≡ at / 4096 → byte_place r k / 4096 ≡ byte_place r at / 4096
    same at page =
        place_frame r k ∙ ap (slice_index r.frames) (omega (arith, whole, page)) ∙ sym (place_frame r at)

-- What calls leave of the memory that is seen.

-- the bytes that are read are as many as the call takes, or none
read_most : (count : ℕ) (source : Sourced) → IsSourceOf (Some count) source → length (bytes_read source) ≤ count
read_most count NotTaken is = absurd is
read_most count Unreadable is = omega arith
read_most count (Bytes bytes) is = omega (arith, is)

module _ (laws : TouchLaws) where
  kept_by : (m : List ℕ) (ws : List (ℕ × ℕ)) (p : ℕ) → All (λ w. w.0 / 4096 ≢ p / 4096) ws
      → byte_at (stored m ws) p ≡ byte_at m p
  kept_by m ws p apart =
      laws.memory.byte_elsewhere m ws p
      (All-weaker (λ (w : ℕ × ℕ). w.0 / 4096 ≢ p / 4096) (λ (w : ℕ × ℕ). w.0 ≢ p)
      (λ w other same. other (ap (λ q. q / 4096) same)) ws apart)

  -- stores in one frame
  kept_beside : (m : List ℕ) (n place value f p : ℕ) → 4096 * f ≤ place → place + n ≤ 4096 * f + 4096 → p / 4096 ≢ f
      → byte_at (stored m (stores n place value)) p ≡ byte_at m p
  kept_beside m n place value f p low high other =
      kept_by m (stores n place value) p
      (All-weaker (λ (w : ℕ × ℕ). w.0 / 4096 ≡ f) (λ (w : ℕ × ℕ). w.0 / 4096 ≢ p / 4096)
      (λ w at same. other (sym same ∙ at))
      (stores n place value) (laws.frame.within_frame n place value f low high))

  -- stores in a region
  kept_region : (r : RegionRecord) (offset : ℕ) (bytes m : List ℕ) (p : ℕ)
      → ((k : ℕ) → offset ≤ k → k < offset + length bytes → byte_place r k / 4096 ≢ p / 4096)
      → byte_at (stored m (region_stores r offset bytes)) p ≡ byte_at m p
  kept_region r offset bytes m p apart =
      kept_by m (region_stores r offset bytes) p (stores_all (λ q. q / 4096 ≢ p / 4096) r offset bytes apart)

  -- a write in a region that lives, whose range lies in it
  module _ (next : ℕ) (r : RegionRecord) (is : IsRegion next r) (below : ℕ) (own : 64 ≤ below) (m : List ℕ) (p : ℕ)
      (offset last : ℕ) (bytes : List ℕ) (within : (k : ℕ) → k < offset + length bytes → k ≤ last) where
    apart_from : (below ≤ p / 4096) × ((p / 4096 ≢ byte_place r offset / 4096) × (p / 4096 ≢ byte_place r last / 4096))
        → last / 4096 ≤ offset / 4096 + 1 → (pooled : Bool) → r.pooled ≡ pooled
        → (k : ℕ) → offset ≤ k → k < offset + length bytes → byte_place r k / 4096 ≢ p / 4096
    apart_from out near true pooled k low high same = omega (arith, pooled_low next r is pooled k, own, out.0, same)
    apart_from out near false declared k low high same =
        elim (two_frames r (is.declared declared).0 offset k last low (within k high) near) [
          | inl first ↦ out.1.0 (sym same ∙ first)
          | inr later ↦ out.1.1 (sym same ∙ later)
        ]

    kept_if : (near : Bool) → nat_le (last / 4096) (offset / 4096 + 1) ≡ near
        → LiesOutside (if near then Body below (byte_place r offset / 4096) (byte_place r last / 4096) else Any) p
        → byte_at (stored m (region_stores r offset bytes)) p ≡ byte_at m p
    kept_if false far out = absurd out
    kept_if true near out =
        kept_region r offset bytes m p
        (apart_from out (leb-true (last / 4096) (offset / 4096 + 1) near) r.pooled refl)

    kept_range : LiesOutside (touched_in below (Some r) offset last) p
        → byte_at (stored m (region_stores r offset bytes)) p ≡ byte_at m p
    kept_range out = kept_if (nat_le (last / 4096) (offset / 4096 + 1)) refl out

  -- any write
  module _ (book : Book) (sound : IsBook book) (below : ℕ) (own : 64 ≤ below) (m : List ℕ) (p : ℕ)
      (region offset count : ℕ) (source : Sourced) where
    kept_stores : (found : Option RegionRecord) → region_of book region ≡ found → fits_region found offset count ≡ true
        → IsSourceOf (Some count) source → LiesOutside (touched_in below found offset (offset + count - 1)) p
        → byte_at (stored m (stores_by found offset (bytes_read source))) p ≡ byte_at m p
    kept_stores None found fits sourced out = absurd (false≢true fits)
    kept_stores (Some r) found fits sourced out =
        let parts = and_parts (nat_le 1 count) (nat_le (offset + count) r.size) fits in
        kept_range book.next r (region_is book sound region r found) below own m p offset (offset + count - 1)
        (bytes_read source)
        (λ k high. omega (arith, high, leb-true 1 count parts.0, read_most count source sourced)) out

    none_stored : (found : Option RegionRecord) → source ≡ NotTaken
        → byte_at (stored m (stores_by found offset (bytes_read source))) p ≡ byte_at m p
    none_stored None none = kept_by m [] p (All-nil (λ (w : ℕ × ℕ). w.0 / 4096 ≢ p / 4096))
    none_stored (Some r) none =
        subst (λ (bytes : List ℕ). byte_at (stored m (region_stores r offset bytes)) p ≡ byte_at m p)
        (sym (ap bytes_read none))
        (kept_region r offset [] m p (λ k low high same. omega (arith, low, high)))

    kept_fit : (fits : Bool) → fits_in book region offset count ≡ fits
        → IsSourceOf (if fits then Some count else None) source
        → LiesOutside (if fits then touched_in below (region_of book region) offset (offset + count - 1)
        else Body below 0 0) p
        → byte_at (stored m (stores_written book region offset (bytes_read source))) p ≡ byte_at m p
    kept_fit false fits sourced out = none_stored (region_of book region) sourced
    kept_fit true fits sourced out = kept_stores (region_of book region) refl fits sourced out

    kept_write : (place : ℕ) → IsSourceOf (wants book (Write region offset place count)) source
        → LiesOutside (touched_by_write below book region offset count) p
        → byte_at (stored m (stores_written book region offset (bytes_read source))) p ≡ byte_at m p
    kept_write place sourced out = kept_fit (fits_in book region offset count) refl sourced out

  -- Each call that is accepted.

  module _ (nk : Nested) (m : List ℕ) (sized : length m ≡ 4096 * length nk.tables.kinds) (frames p : ℕ) where
    -- a frame in memory is zeroed
    zeroed_beside : (frame : ℕ) → frame < length nk.tables.kinds → p / 4096 ≢ frame
        → byte_at (frame_zeroed m frame) p ≡ byte_at m p
    zeroed_beside frame within other = laws.frame.byte_zeroed_elsewhere m frame p (omega (arith, sized, within)) other

    kept_zeros : (size policy : ℕ) (at : Option ℕ) → room nk.ledger.book.regions size ≡ at
        → own_frames frames ≤ p / 4096 → byte_at (stored m (zeros_of nk size policy at)) p ≡ byte_at m p
    kept_zeros size policy None found own = kept_by m [] p (All-nil (λ (w : ℕ × ℕ). w.0 / 4096 ≢ p / 4096))
    kept_zeros size policy (Some place) found own =
        let fits : place + size ≤ 65536 = room_inside nk.ledger.book.regions size place found in
        kept_region (pool_region nk.ledger.book size policy place) 0 (replicate size 0) m p
        (λ k low high same. omega (arith, allocated_low nk.ledger.book size policy place fits k, own, same))

    kept_accepted : IsBook nk.ledger.book → (call : Call) (source : Sourced)
        → IsSourceOf (wants nk.ledger.book call) source → verdict nk call source ≡ None
        → LiesOutside (touched_by_call frames nk.ledger.book call) p
        → byte_at (accepted_memory nk call source m) p ≡ byte_at m p
    kept_accepted sound (SetHandler address) source sourced none out =
        kept_beside m 8 0x2000 address 2 p (omega arith) (omega arith) (λ same. omega (arith, out.0, same))
    kept_accepted sound (DeclareTable level frame) source sourced none out =
        let within = declared_inside nk.tables level frame none in
        kept_beside (frame_zeroed m frame) 8 (4096 * frame + 8 * 511) (last_value level) frame p
        (omega arith) (omega arith) out.1.0
        ∙ zeroed_beside frame within out.1.0
    kept_accepted sound (WriteEntry table index value) source sourced none out =
        let within = entry_inside nk.tables table index value none in
        kept_beside m 8 (4096 * table + 8 * index) value table p (omega arith) (omega (arith, within)) out.1.0
    kept_accepted sound (RemoveTable frame) source sourced none out =
        zeroed_beside frame (removed_inside nk.tables frame none) out.1.0
    kept_accepted sound (LoadRoot frame) source sourced none out = refl
    kept_accepted sound (DeclarePages address size policy) source sourced none out = refl
    kept_accepted sound (Allocate size policy) source sourced none out =
        kept_zeros size policy (room nk.ledger.book.regions size) refl out.0
    kept_accepted sound (Free region) source sourced none out = refl
    kept_accepted sound (Write region offset place count) source sourced none out =
        kept_write nk.ledger.book sound (own_frames frames) (omega arith) m p region offset count
        source place sourced out
    kept_accepted sound NoCall source sourced none out = refl

    -- and any call
    kept_seen : IsBook nk.ledger.book → (call : Call) (source : Sourced) → IsSourceOf (wants nk.ledger.book call) source
        → LiesOutside (touched_by_call frames nk.ledger.book call) p
        → byte_at (memory_after_call nk call source m) p ≡ byte_at m p
    kept_seen sound call source sourced out = go (verdict nk call source) refl
      where
        go : (v : Option Rule) → verdict nk call source ≡ v
            → byte_at (written_unless v nk call source m) p ≡ byte_at m p
        go None is = kept_accepted sound call source sourced is out
        go (Some rule) is = refl

    -- memory stays as long
    length_accepted : (call : Call) (source : Sourced) → verdict nk call source ≡ None
        → length (accepted_memory nk call source m) ≡ length m
    length_accepted (SetHandler address) source none = laws.memory.length m (stores 8 0x2000 address)
    length_accepted (DeclareTable level frame) source none =
        laws.memory.length (frame_zeroed m frame) (stores 8 (4096 * frame + 8 * 511) (last_value level))
        ∙ laws.frame.length_zeroed m frame (omega (arith, sized, declared_inside nk.tables level frame none))
    length_accepted (WriteEntry table index value) source none =
        laws.memory.length m (stores 8 (4096 * table + 8 * index) value)
    length_accepted (RemoveTable frame) source none =
        laws.frame.length_zeroed m frame (omega (arith, sized, removed_inside nk.tables frame none))
    length_accepted (LoadRoot frame) source none = refl
    length_accepted (DeclarePages address size policy) source none = refl
    length_accepted (Allocate size policy) source none =
        laws.memory.length m (zeros_of nk size policy (room nk.ledger.book.regions size))
    length_accepted (Free region) source none = refl
    length_accepted (Write region offset place count) source none =
        laws.memory.length m (stores_written nk.ledger.book region offset (bytes_read source))
    length_accepted NoCall source none = refl

    length_seen : (call : Call) (source : Sourced) → length (memory_after_call nk call source m) ≡ length m
    length_seen call source = go (verdict nk call source) refl
      where
        go : (v : Option Rule) → verdict nk call source ≡ v → length (written_unless v nk call source m) ≡ length m
        go None is = length_accepted call source is
        go (Some rule) is = refl

-- A byte outside what a call is told to touch lies behind the nested kernel's own frames.

above_near : (below one two : ℕ) (p : ℕ) (near : Bool) → LiesOutside (if near then Body below one two else Any) p
    → below ≤ p / 4096
above_near below one two p false out = absurd out
above_near below one two p true out = out.0

above_in : (below : ℕ) (found : Option RegionRecord) (offset last p : ℕ)
    → LiesOutside (touched_in below found offset last) p → below ≤ p / 4096
above_in below None offset last p out = out.0
above_in below (Some r) offset last p out =
    above_near below (byte_place r offset / 4096) (byte_place r last / 4096) p
    (nat_le (last / 4096) (offset / 4096 + 1)) out

above_fit : (below : ℕ) (found : Option RegionRecord) (offset last p : ℕ) (fits : Bool)
    → LiesOutside (if fits then touched_in below found offset last else Body below 0 0) p → below ≤ p / 4096
above_fit below found offset last p true out = above_in below found offset last p out
above_fit below found offset last p false out = out.0

above_own : (frames : ℕ) (book : Book) (call : Call) (p : ℕ) → LiesOutside (touched_by_call frames book call) p
    → own_frames frames ≤ p / 4096
above_own frames book (SetHandler address) p out = out.0
above_own frames book (DeclareTable level frame) p out = out.0
above_own frames book (WriteEntry table index value) p out = out.0
above_own frames book (RemoveTable frame) p out = out.0
above_own frames book (LoadRoot frame) p out = out.0
above_own frames book (DeclarePages address size policy) p out = out.0
above_own frames book (Allocate size policy) p out = out.0
above_own frames book (Free region) p out = out.0
above_own frames book (Write region offset place count) p out =
    above_fit (own_frames frames) (region_of book region) offset (offset + count - 1) p
    (fits_in book region offset count) out
above_own frames book NoCall p out = out.0

no_book : (frames f : ℕ) → own_frames frames ≤ f → is_book_frame frames f ≡ false
unfolding is_book_frame
no_book frames f past =
    and_right (nat_le 26 f) (nat_lt f (64 + (frames + 255) / 256))
    (le-ltb f (64 + (frames + 255) / 256) past)

kinds_count : (m : List ℕ) → length (kinds_in m) ≡ length m / 4096
unfolding descriptors_in
kinds_count m = length-map-range_with_len _ 0 (length m / 4096)

-- so the body leaves each byte outside as it was
pub call_keeps : (laws : TouchLaws) (own : OwnState) (before after : List ℕ) (call : Call)
    (source : Sourced) → HoldsBooks own before → IsSourceOf (wants (books_in own before).ledger.book call) source
    → seen after ≡ memory_after_call (nested_held own before) call source (seen before)
    → KeepsOutside (touched_by_call (length before / 4096) (books_in own before).ledger.book call) before after
call_keeps laws own before after call source held sourced is p out =
    let frames : ℕ = length before / 4096 in
    let nk : Nested = nested_held own before in
    let seen_size : length (seen before) ≡ length before = laws.mask.length (is_book_frame frames) before in
    let sized : length (seen before) ≡ 4096 * length nk.tables.kinds =
    omega (arith, seen_size, kinds_count before, held.stored.size) in
    let stays : length after ≡ length before =
    sym (laws.mask.length (is_book_frame (length after / 4096)) after) ∙ ap length is
    ∙ length_seen laws nk (seen before) sized frames p call source ∙ seen_size in
    let past : own_frames frames ≤ p / 4096 = above_own frames (books_in own before).ledger.book call p out in
    let later : own_frames (length after / 4096) ≤ p / 4096 =
    subst (λ n. own_frames (n / 4096) ≤ p / 4096) (sym stays) past in
    sym (laws.mask.byte_seen (is_book_frame (length after / 4096)) after p
    (no_book (length after / 4096) (p / 4096) later))
    ∙ ap (λ m. byte_at m p) is
    ∙ kept_seen laws nk (seen before) sized frames p held.books.kept.book call source sourced out
    ∙ laws.mask.byte_seen (is_book_frame frames) before p (no_book frames (p / 4096) past)
