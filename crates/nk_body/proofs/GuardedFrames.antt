-- Frames of data with no loose leaf, one after another, become guarded.
use Rattle.std.proofs.Common.{◌≡◌, ◌≢◌, ℕ, zero, suc, ◌+◌, ◌/◌, ◌<◌, Bool, true, false, not, ◌||◌, List, [], ◌∷◌, length, arith, refl, sym, ap, ◌∙◌, subst, inl, inr}
use Rattle.std.specs.Prelude.{slice_set, slice_index_or, ◌==◌, nat_le, nat_lt, All, Option, Some, None, Result, Ok, Err, if◌then◌else◌}
use Rattle.std.specs.List.{list_any}
use Rattle.std.proofs.lemmas.Bool.{cases_lt, eq-eqb, false≢true, ne_eqb}
use Rattle.std.proofs.lemmas.Option.{same_Some}
use Rattle.std.proofs.lemmas.List.{get_or-set_other, get_or_past}
use Rattle.std.proofs.lemmas.List.Elements.{All-cons, All-nil, All-weaker}
use Rattle.std.proofs.lemmas.List.Folds.{list_any_at, list_any_none}
use Rattle.std.proofs.lemmas.List.FromFn.{get_or-map-range_with_len, length-map-range_with_len}
use Rattle.nk_bits.specs.declared.kind.Kind.{Kind}
use Rattle.nk_bits.specs.declared.kind.Kind.TheVariants.{Data, Guarded, Hidden}
use Rattle.nk_bits.specs.declared.leaf.Leaf.{Leaf}
use Rattle.nk_bits.specs.declared.rule.Rule.TheVariants.{BadPolicy, BadRange, NoRoom, NotData, StillLoose, TooManyRegions}
use Rattle.nk_bits.specs.Kinds.{is_data, kind_of}
use Rattle.nk_bits.specs.Paging.{is_canonical_page, walk}
use Rattle.nk_bits.specs.WalkLaws.{WalkLaws}
use Rattle.phys_mem.specs.Memory.{entry_in}
use Rattle.page_desc.specs.FrameCounts.{loose_in}
use Rattle.page_desc.specs.FrameDescriptors.{Descriptors}
use Rattle.page_desc.specs.PageTables.{AreDescribed, HoldsSoundTables, tables_in, value_in}
use Rattle.page_desc.specs.PageTableLaws.{GuardedLaws, RecordWalkLaws}
use Rattle.region_book.specs.RegionCalls.{pages_rule, else_rule, frames_from, frames_rule, guarded, has_twice, is_bad_range, is_policy, pages_joined, leaf_frame, mapped}
use Rattle.region_book.specs.RegionRecords.{Book, IsEachOnce}
use Rattle.region_book.specs.RegionLaws.{DeclaredLaws}

pub guarded_data : Guarded ≡ Data → ⊥
guarded_data same = false≢true (ap is_data same)

-- the frame is in the list
abbrev pub among : ℕ → List ℕ → Bool
among f fs = list_any (λ g. g == f) fs

pub among_each : (fs : List ℕ) → All (λ f. among f fs ≡ true) fs
among_each fs k d below = list_any_at (λ g. g == slice_index_or fs k d) fs k d below (eq-eqb _ _ refl)

pub length_guarded : (fs : List ℕ) (kinds : List Kind) → length (guarded kinds fs) ≡ length kinds
unfolding guarded
length_guarded fs kinds = length-map-range_with_len (λ f. if among f fs then Guarded else kind_of kinds f) 0 (length kinds)

-- the kind of each frame
pub kind_guarded : (fs : List ℕ) (kinds : List Kind) (f : ℕ) → All (λ g. g < length kinds) fs
    → kind_of (guarded kinds fs) f ≡ (if among f fs then Guarded else kind_of kinds f)
unfolding guarded
kind_guarded fs kinds f inside = elim (cases_lt f (length kinds)) [
  | inl there ↦
      get_or-map-range_with_len (λ f. if among f fs then Guarded else kind_of kinds f) 0 (length kinds) f f Hidden there (omega arith)
  | inr past ↦
      let none : among f fs ≡ false = list_any_none (λ g. g == f) fs
      (All-weaker (λ g. g < length kinds) (λ g. (g == f) ≡ false) (λ g below. ne_eqb g f (λ same. omega (arith, below, past, same))) fs inside) in
      get_or_past (guarded kinds fs) f Hidden (omega (arith, past, length_guarded fs kinds))
      ∙ sym (ap (λ b. if b then Guarded else kind_of kinds f) none ∙ get_or_past kinds f Hidden past)
]

-- frames that are guarded, or become so
pub guarded_stays : (fs : List ℕ) (kinds : List Kind) (f : ℕ) → All (λ g. g < length kinds) fs → kind_of kinds f ≡ Guarded
    → kind_of (guarded kinds fs) f ≡ Guarded
guarded_stays fs kinds f inside is = kind_guarded fs kinds f inside ∙ go (among f fs)
  where
    go : (b : Bool) → (if b then Guarded else kind_of kinds f) ≡ Guarded
    go true = refl
    go false = is

pub guarded_there : (fs : List ℕ) (kinds : List Kind) → All (λ g. g < length kinds) fs → All (λ f. kind_of (guarded kinds fs) f ≡ Guarded) fs
guarded_there fs kinds inside k d below =
    kind_guarded fs kinds (slice_index_or fs k d) inside
    ∙ ap (λ b. if b then Guarded else kind_of kinds (slice_index_or fs k d)) (among_each fs k d below)

-- the frames are of data, with no loose leaf
abbrev pub AreFree : List ℕ → List Kind → List ℕ → Type 0
AreFree m kinds fs = All (λ f. (kind_of kinds f ≡ Data) × (loose_in kinds (entry_in m) f ≡ 0)) fs

-- the tables stand, and the descriptors
module _ (laws : GuardedLaws) (declared : DeclaredLaws) (root : ℕ) (m : List ℕ) where
  free_later : (kinds : List Kind) (f : ℕ) (fs : List ℕ) → HoldsSoundTables kinds root m → kind_of kinds f ≡ Data → All (λ g. f ≢ g) fs
      → AreFree m kinds fs → AreFree m (slice_set kinds f Guarded) fs
  free_later kinds f fs sound was apart free k d below =
      let g : ℕ = slice_index_or fs k d in (
        get_or-set_other kinds f g Guarded Hidden (λ same. apart k d below (sym same)) ∙ (free k d below).0,
        laws.loose kinds root f g m sound was ∙ (free k d below).1,
      )

  -- the first of frames that stand once is none of the others
  apart_first : (f : ℕ) (fs : List ℕ) → IsEachOnce (f ∷ fs) → All (λ g. f ≢ g) fs
  apart_first f fs once k d below = once 0 (suc k) d (omega arith) (omega (arith, below))

  once_later : (f : ℕ) (fs : List ℕ) → IsEachOnce (f ∷ fs) → IsEachOnce fs
  once_later f fs once i j d low below = once (suc i) (suc j) d (omega (arith, low)) (omega (arith, below))

  pub guarded_sound : (fs : List ℕ) (kinds : List Kind) → HoldsSoundTables kinds root m → IsEachOnce fs → AreFree m kinds fs
      → HoldsSoundTables (guarded kinds fs) root m
      × (tables_in (guarded kinds fs) root m ≡ record (tables_in kinds root m) { kinds = guarded kinds fs })
  guarded_sound [] kinds sound once free =
      subst (λ ks. HoldsSoundTables ks root m × (tables_in ks root m ≡ record (tables_in kinds root m) { kinds = ks }))
      (sym (declared.none kinds)) (sound, refl)
  guarded_sound (f ∷ fs) kinds sound once free =
      let here = free 0 f (omega arith) in
      let later = guarded_sound fs (slice_set kinds f Guarded) (laws.sound kinds root f m sound here.0 here.1) (once_later f fs once)
      (free_later kinds f fs sound here.0 (apart_first f fs once) (λ k d below. free (suc k) d (omega (arith, below)))) in
      subst (λ ks. HoldsSoundTables ks root m × (tables_in ks root m ≡ record (tables_in kinds root m) { kinds = ks }))
      (sym (declared.more kinds f fs))
      (later.0, later.1 ∙ (λ i. record (laws.tables kinds root f m sound here.0 i) { kinds = guarded (slice_set kinds f Guarded) fs }))

  pub guarded_described : (fs : List ℕ) (d : Descriptors) → AreDescribed d root m → IsEachOnce fs → AreFree m d.kinds fs
      → AreDescribed (record d { kinds = guarded d.kinds fs }) root m
  guarded_described [] d are once free =
      subst (λ ks. AreDescribed (record d { kinds = ks }) root m) (sym (declared.none d.kinds)) are
  guarded_described (f ∷ fs) d are once free =
      let here = free 0 f (omega arith) in
      subst (λ ks. AreDescribed (record d { kinds = ks }) root m) (sym (declared.more d.kinds f fs))
      (guarded_described fs (record d { kinds = slice_set d.kinds f Guarded }) (laws.described d root f m are here.0 here.1)
      (once_later f fs once)
      (free_later d.kinds f fs are.sound here.0 (apart_first f fs once) (λ k e below. free (suc k) e (omega (arith, below)))))

-- what holds of the frame of each page that is mapped
module _ (at : ℕ → Option ℕ) (P : ℕ → Type 0) (each : (page f : ℕ) → at page ≡ Some f → P f) where
  joined_all : (o : Option ℕ) (r : Option (List ℕ)) (page : ℕ) → at page ≡ o → ((fs : List ℕ) → r ≡ Some fs → All P fs)
      → (fs : List ℕ) → pages_joined o r ≡ Some fs → All P fs
  joined_all (Some f) (Some gs) page here later fs is =
      subst (All P) (same_Some (f ∷ gs) fs is) (All-cons P f gs (each page f here) (later gs refl))
  joined_all (Some f) None page here later fs is = let no : None ≡ Some fs = is in cc
  joined_all None (Some gs) page here later fs is = let no : None ≡ Some fs = is in cc
  joined_all None None page here later fs is = let no : None ≡ Some fs = is in cc

  pub frames_all : (n page : ℕ) (fs : List ℕ) → frames_from at page n ≡ Some fs → All P fs
  unfolding frames_from
  frames_all zero page fs is = subst (All P) (same_Some [] fs is) (All-nil P)
  frames_all (suc n) page fs is = joined_all (at page) (frames_from at (page + 1) n) page refl (λ gs found. frames_all n (page + 1) gs found) fs is

pub frames_count : (at : ℕ → Option ℕ) (n page : ℕ) (fs : List ℕ) → frames_from at page n ≡ Some fs → length fs ≡ n
unfolding frames_from
frames_count at zero page fs is = ap length (sym (same_Some [] fs is))
frames_count at (suc n) page fs is = go (at page) (frames_from at (page + 1) n) (λ gs found. frames_count at n (page + 1) gs found) is
  where
    go : (o : Option ℕ) (r : Option (List ℕ)) → ((gs : List ℕ) → r ≡ Some gs → length gs ≡ n) → pages_joined o r ≡ Some fs → length fs ≡ suc n
    go (Some f) (Some gs) later is = ap length (sym (same_Some (f ∷ gs) fs is)) ∙ ap suc (later gs refl)
    go (Some f) None later is = let no : None ≡ Some fs = is in cc
    go None (Some gs) later is = let no : None ≡ Some fs = is in cc
    go None None later is = let no : None ≡ Some fs = is in cc

-- the frames that a walk finds, over memory and over the record
pub mapped_inside : WalkLaws → (t : ℕ → ℕ → ℕ) (frames root page f : ℕ) → mapped t frames root page ≡ Some f → f < frames
mapped_inside laws t frames root page f is = by_page (is_canonical_page page) is
  where
    by_walk : (r : Result Leaf ℕ) → walk t frames root page ≡ r → leaf_frame r ≡ Some f → f < frames
    by_walk (Ok leaf) found is = omega (arith, laws.in_memory t frames root page leaf found, same_Some leaf.frame f is)
    by_walk (Err level) found is = let no : None ≡ Some f = is in cc

    by_page : (b : Bool) → (if b then leaf_frame (walk t frames root page) else None) ≡ Some f → f < frames
    by_page true is = by_walk (walk t frames root page) refl is
    by_page false is = let no : None ≡ Some f = is in cc

pub mapped_same : RecordWalkLaws → (kinds : List Kind) (root : ℕ) (m : List ℕ) → HoldsSoundTables kinds root m
    → mapped (entry_in m) (length m / 4096) root ≡ mapped (value_in (tables_in kinds root m)) (length kinds) root
mapped_same laws kinds root m sound =
    λ i page. if is_canonical_page page
    then leaf_frame ((ap (λ n. walk (entry_in m) n root page) count ∙ sym (laws.same kinds root page m sound)) i) else None
  where
    count : length m / 4096 ≡ length kinds
    count = omega (arith, sound.size)

-- counts that agree on each frame that is mapped
any_same : (p q : ℕ → Bool) (fs : List ℕ) → All (λ f. p f ≡ q f) fs → list_any p fs ≡ list_any q fs
any_same p q [] same = refl
any_same p q (f ∷ fs) same =
    λ i. same 0 f (omega arith) i || any_same p q fs (λ k d below. same (suc k) d (omega (arith, below))) i

pub rule_same : (book : Book) (kinds : List Kind) (loose other : ℕ → ℕ) (at : ℕ → Option ℕ) (address size policy : ℕ)
    → ((page f : ℕ) → at page ≡ Some f → loose f ≡ other f)
    → pages_rule book kinds loose at address size policy ≡ pages_rule book kinds other at address size policy
unfolding pages_rule
rule_same book kinds loose other at address size policy agree =
    ap (λ rule. if is_bad_range address size then Some BadRange else rule)
    (by_frames (frames_from at (address / 4096) (size / 4096)) (λ fs found. frames_all at (λ f. loose f ≡ other f) agree (size / 4096) (address / 4096) fs found))
  where
    by_frames : (o : Option (List ℕ)) → ((fs : List ℕ) → o ≡ Some fs → All (λ f. loose f ≡ other f) fs)
        → frames_rule book kinds loose policy o ≡ frames_rule book kinds other policy o
    by_frames None same = refl
    by_frames (Some fs) same =
        ap (λ any. else_rule (has_twice fs) BadRange (else_rule (not (is_policy policy)) BadPolicy
        (else_rule (nat_le 256 (length book.regions)) TooManyRegions (else_rule (nat_lt 128 (book.declared + length fs)) NoRoom
        (else_rule (list_any (λ f. not (is_data (kind_of kinds f))) fs) NotData (else_rule any StillLoose None))))))
        (any_same (λ f. not (loose f == 0)) (λ f. not (other f == 0)) fs (λ k d below. ap (λ n. not (n == 0)) (same fs refl k d below)))
