-- What calls on regions are that break no rule.
use Rattle.std.proofs.Common.{◌≡◌, ◌≢◌, ℕ, ◌+◌, ◌*◌, ◌/◌, ◌%◌, ◌<◌, ◌≤◌, Bool, true, false, not, ◌&&◌, ◌||◌, List, [], ◌∷◌, length, map, arith, refl, sym, ap, ◌∙◌, inl, inr}
use Rattle.std.specs.Prelude.{◌==◌, nat_le, nat_lt, All, Option, Some, None, is_none, if◌then◌else◌}
use Rattle.std.specs.List.{list_any, range_with_len}
use Rattle.std.proofs.lemmas.Bool.{and_parts, eqb-true, false≢true, leb-false, leb-true, ltb-false, not-false, not-true, or_parts}
use Rattle.std.proofs.lemmas.Bool.Decides.{eqb_tells}
use Rattle.std.proofs.lemmas.List.Elements.{All-cons, All-nil}
use Rattle.nk_bits.specs.declared.kind.Kind.{Kind}
use Rattle.nk_bits.specs.declared.kind.Kind.TheVariants.{Data, Code, Table, Fixed, Trap, Guarded, Hidden}
use Rattle.nk_bits.specs.declared.rule.Rule.{Rule}
use Rattle.nk_bits.specs.declared.rule.Rule.TheVariants.{BadPolicy, BadRange, BadRegion, BadSource, LogFull, NoRoom, NoWrite, NotAllocated, NotAtEnd, NotData, OutOfBounds, StillLoose, TooManyRegions, WrittenOnce}
use Rattle.nk_bits.specs.Kinds.{is_data, kind_of}
use Rattle.nk_bits.specs.Paging.{is_canonical}
use Rattle.region_book.specs.RegionCalls.{alloc_rule, pages_rule, else_rule, fits_region, frames_from, frames_rule, free_rule_of, has_twice, is_bad_range, is_policy, is_range_taken, room}
use Rattle.region_book.specs.RegionRecords.{Book, RegionRecord, is_written_in}
use Rattle.policy_book.specs.PolicyRules.{bounds_of, first_rule, policy_rule}
use Rattle.write_log.specs.LogRecords.{LogRecord, log_size, logged, room_of}
use Rattle.nk_body.specs.CallRules.{IsSourceOf, NotTaken, Sourced, Unreadable, source_rule}
use Rattle.nk_body.specs.CallRules.{Bytes}
use Rattle.nk_body.proofs.RegionFrames.{found_place}

else_none : (b : Bool) (rule : Rule) (later : Option Rule) → else_rule b rule later ≡ None → (b ≡ false) × (later ≡ None)
else_none true rule later is = let no : Some rule ≡ None = is in cc
else_none false rule later is = (refl, is)

first_none : (one later : Option Rule) → first_rule one later ≡ None → (one ≡ None) × (later ≡ None)
first_none None later is = (refl, is)
first_none (Some rule) later is = let no : Some rule ≡ None = is in cc

not_none : (o : Option ℕ) → is_none o ≡ false → (p : ℕ) × (o ≡ Some p)
not_none None is = absurd (false≢true (sym is))
not_none (Some p) is = (p, refl)

apart_by : (a b : ℕ) → (a == b) ≡ false → a ≢ b
apart_by a b is same = elim (eqb_tells a b) [ inl yes_same ↦ false≢true (sym is ∙ yes_same.0) | inr other ↦ other.1 same ]

policy_bounds : (policy : ℕ) → is_policy policy ≡ true → (1 ≤ policy) × (policy ≤ 4)
policy_bounds policy is =
    let parts = and_parts (nat_le 1 policy) (nat_le policy 4) is in (leb-true 1 policy parts.0, leb-true policy 4 parts.1)

-- an allocation, at a place of the pool that is free
pub record IsAllocable (book : Book) (size policy : ℕ) : Type 0 where
  pub least : 1 ≤ size
  pub most : size ≤ 65536
  pub low : 1 ≤ policy
  pub high : policy ≤ 4
  pub few : length book.regions < 256
  pub place : (p : ℕ) × (room book.regions size ≡ Some p)

pub alloc_facts : (book : Book) (size policy : ℕ) → alloc_rule book size policy ≡ None → IsAllocable book size policy
unfolding alloc_rule
alloc_facts book size policy is =
    let a = else_none (size == 0 || nat_lt 65536 size) BadRange _ is in
    let b = else_none (not (is_policy policy)) BadPolicy _ a.1 in
    let c = else_none (nat_le 256 (length book.regions)) TooManyRegions _ b.1 in
    let d = else_none (is_none (room book.regions size)) NoRoom None c.1 in
    let sizes = or_parts (size == 0) (nat_lt 65536 size) a.0 in
    let policies = policy_bounds policy (not-false (is_policy policy) b.0) in
    record {
      least = omega (arith, apart_by size 0 sizes.0);
      most = ltb-false 65536 size sizes.1;
      low = policies.0;
      high = policies.1;
      few = leb-false 256 (length book.regions) c.0;
      place = not_none (room book.regions size) d.0;
    }

pub room_facts : (regions : List RegionRecord) (size p : ℕ) → room regions size ≡ Some p → (p + size ≤ 65536) × (is_range_taken regions size p ≡ false)
unfolding room
room_facts regions size p found =
    let test = (found_place (λ p. nat_le (p + size) 65536 && not (is_range_taken regions size p)) (map (λ k. 16 * k) (range_with_len 0 4096)) p found).3 in
    let parts = and_parts (nat_le (p + size) 65536) (not (is_range_taken regions size p)) test in
    (leb-true (p + size) 65536 parts.0, not-true (is_range_taken regions size p) parts.1)

-- a region that is let go lives, and lies in the pool
pub free_facts : (o : Option RegionRecord) → free_rule_of o ≡ None → (r : RegionRecord) × (o ≡ Some r) × (r.pooled ≡ true)
free_facts None is = let no : Some BadRegion ≡ None = is in cc
free_facts (Some r) is = (r, refl, not-false r.pooled (else_none (not r.pooled) NotAllocated None is).0)

-- pages whose frames are distinct data, with no loose leaf
pub record IsDeclarable (book : Book) (kinds : List Kind) (loose : ℕ → ℕ) (size policy : ℕ) (fs : List ℕ) : Type 0 where
  pub least : 1 ≤ size
  pub most : size ≤ 65536
  pub whole : size % 4096 ≡ 0
  pub distinct : has_twice fs ≡ false
  pub low : 1 ≤ policy
  pub high : policy ≤ 4
  pub few : length book.regions < 256
  pub pages : book.declared + length fs ≤ 128
  pub free : All (λ f. kind_of kinds f ≡ Data) fs
  pub none : All (λ f. loose f ≡ 0) fs

none_any : (p : ℕ → Bool) (P : ℕ → Type 0) → ((f : ℕ) → p f ≡ false → P f) → (fs : List ℕ) → list_any p fs ≡ false → All P fs
none_any p P means [] is = All-nil P
none_any p P means (f ∷ fs) is =
    let parts = or_parts (p f) (list_any p fs) is in All-cons P f fs (means f parts.0) (none_any p P means fs parts.1)

data_by : (kind : Kind) → is_data kind ≡ true → kind ≡ Data
data_by Data is = refl
data_by Code is = absurd (false≢true is)
data_by (Table level) is = absurd (false≢true is)
data_by Fixed is = absurd (false≢true is)
data_by Trap is = absurd (false≢true is)
data_by Guarded is = absurd (false≢true is)
data_by Hidden is = absurd (false≢true is)

pub declare_facts : (book : Book) (kinds : List Kind) (loose : ℕ → ℕ) (at : ℕ → Option ℕ) (address size policy : ℕ)
    → pages_rule book kinds loose at address size policy ≡ None
    → (fs : List ℕ) × (frames_from at (address / 4096) (size / 4096) ≡ Some fs) × IsDeclarable book kinds loose size policy fs
unfolding pages_rule
declare_facts book kinds loose at address size policy is = by_range (is_bad_range address size) refl is
  where
    by_frames : is_bad_range address size ≡ false → (o : Option (List ℕ)) → frames_rule book kinds loose policy o ≡ None
        → (fs : List ℕ) × (o ≡ Some fs) × IsDeclarable book kinds loose size policy fs
    by_frames range None is = let no : Some BadRange ≡ None = is in cc
    by_frames range (Some fs) is =
        let first = or_parts (not (is_canonical address) || not (address % 4096 == 0) || size == 0 || not (size % 4096 == 0)) (nat_lt 65536 size) range in
        let second = or_parts (not (is_canonical address) || not (address % 4096 == 0) || size == 0) (not (size % 4096 == 0)) first.0 in
        let third = or_parts (not (is_canonical address) || not (address % 4096 == 0)) (size == 0) second.0 in
        let a = else_none (has_twice fs) BadRange _ is in
        let b = else_none (not (is_policy policy)) BadPolicy _ a.1 in
        let c = else_none (nat_le 256 (length book.regions)) TooManyRegions _ b.1 in
        let d = else_none (nat_lt 128 (book.declared + length fs)) NoRoom _ c.1 in
        let e = else_none (list_any (λ f. not (is_data (kind_of kinds f))) fs) NotData _ d.1 in
        let f = else_none (list_any (λ f. not (loose f == 0)) fs) StillLoose None e.1 in
        let policies = policy_bounds policy (not-false (is_policy policy) b.0) in (
          fs,
          refl,
          record {
            least = omega (arith, apart_by size 0 third.1);
            most = ltb-false 65536 size first.1;
            whole = eqb-true (size % 4096) 0 (not-false (size % 4096 == 0) second.1);
            distinct = a.0;
            low = policies.0;
            high = policies.1;
            few = leb-false 256 (length book.regions) c.0;
            pages = ltb-false 128 (book.declared + length fs) d.0;
            free = none_any (λ f. not (is_data (kind_of kinds f))) (λ f. kind_of kinds f ≡ Data)
                (λ f out. data_by (kind_of kinds f) (not-false (is_data (kind_of kinds f)) out)) fs e.0;
            none = none_any (λ f. not (loose f == 0)) (λ f. loose f ≡ 0) (λ f out. eqb-true (loose f) 0 (not-false (loose f == 0) out)) fs f.0;
          },
        )

    by_range : (b : Bool) → is_bad_range address size ≡ b
        → (if b then Some BadRange else frames_rule book kinds loose policy (frames_from at (address / 4096) (size / 4096))) ≡ None
        → (fs : List ℕ) × (frames_from at (address / 4096) (size / 4096) ≡ Some fs) × IsDeclarable book kinds loose size policy fs
    by_range true range is = let no : Some BadRange ≡ None = is in cc
    by_range false range is = by_frames range (frames_from at (address / 4096) (size / 4096)) is

-- the range of a write is one of a live region
pub bounds_facts : (o : Option RegionRecord) (offset count : ℕ) → bounds_of o offset count ≡ None
    → (r : RegionRecord) × (o ≡ Some r) × (fits_region (Some r) offset count ≡ true) × (offset + count ≤ r.size)
bounds_facts None offset count is = let no : Some BadRegion ≡ None = is in cc
bounds_facts (Some r) offset count is =
    let fits = not-false (fits_region (Some r) offset count) (else_none (not (fits_region (Some r) offset count)) OutOfBounds None is).0 in
    (r, refl, fits, leb-true (offset + count) r.size (and_parts (nat_le 1 count) (nat_le (offset + count) r.size) fits).1)

-- what was read for it are its bytes
pub source_facts : (count : ℕ) (source : Sourced) → IsSourceOf (Some count) source → source_rule source ≡ None
    → (bytes : List ℕ) × (source ≡ Bytes bytes) × (length bytes ≡ count)
source_facts count NotTaken is none = absurd is
source_facts count Unreadable is none = let no : Some BadSource ≡ None = none in cc
source_facts count (Bytes bytes) is none = (bytes, refl, is)

-- a write that is logged has room in the log
pub policy_room : (log : List LogRecord) (r : RegionRecord) (offset count : ℕ) → policy_rule log r offset count ≡ None → (r.policy == 4) ≡ true
    → 24 + count ≤ room_of log
unfolding policy_rule
policy_room log r offset count is logs =
    let a = else_none (r.policy == 3) NoWrite _ is in
    let b = else_none (r.policy == 1 && is_written_in r offset count) WrittenOnce _ a.1 in
    let c = else_none (r.policy == 2 && not (offset == r.tail)) NotAtEnd _ b.1 in
    let d = else_none (r.policy == 4 && nat_lt (room_of log) (24 + count)) LogFull None c.1 in
    ltb-false (room_of log) (24 + count) (sym (ap (λ b. b && nat_lt (room_of log) (24 + count)) logs) ∙ d.0)

pub writing_facts : (one two three : Option Rule) → first_rule one (first_rule two three) ≡ None → (one ≡ None) × (two ≡ None) × (three ≡ None)
writing_facts one two three is =
    let a = first_none one (first_rule two three) is in let b = first_none two three a.1 in (a.0, b.0, b.1)

-- the log with a record more
pub logged_size : (log : List LogRecord) (region offset : ℕ) (bytes : List ℕ) → log_size (logged log region offset bytes) ≡ log_size log + (24 + length bytes)
unfolding log_size
logged_size [] region offset bytes = omega arith
logged_size (it ∷ later) region offset bytes = omega (arith, logged_size later region offset bytes)
