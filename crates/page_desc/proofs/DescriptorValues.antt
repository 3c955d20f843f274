-- The descriptors of a memory, frame by frame, and when two memories hold the same ones.
use Rattle.std.proofs.Common.{◌≡◌, ◌≢◌, ℕ, ◌+◌, ◌*◌, ◌/◌, ◌<◌, ◌≤◌, true, List, length, set, get_or, arith, sym, ap, ◌∙◌, inl, inr}
use Rattle.std.specs.Prelude.{map}
use Rattle.std.specs.List.{range_with_len}
use Rattle.std.proofs.lemmas.Bool.{cases_eq}
use Rattle.std.proofs.lemmas.List.{ext_get_or, get_or_past, get_or-set_same, get_or-set_other, length-set}
use Rattle.std.proofs.lemmas.List.FromFn.{length-map-range_with_len, get_or-map-range_with_len}
use Rattle.phys_mem.specs.MaskedMemory.{is_book_frame}
use Rattle.phys_mem.specs.Memory.{byte_at}
use Rattle.nk_bits.specs.declared.kind.Kind.{Kind}
use Rattle.nk_bits.specs.declared.kind.Kind.TheVariants.{Hidden}
use Rattle.nk_bits.specs.Kinds.{kind_of}
use Rattle.page_desc.specs.DescriptorBytes.{HoldsDescriptors, descriptors_in, field_in, kind_by, kinds_in, word_of}
use Rattle.page_desc.specs.FieldChanges.{DiffersInField}

-- a list by frame
abbrev pub by_frame : {A : Type 0} → (ℕ → A) → ℕ → List A
by_frame g n = map g (range_with_len 0 n)

pub length_by : {A : Type 0} (g : ℕ → A) (n : ℕ) → length (by_frame g n) ≡ n
length_by g n = length-map-range_with_len g 0 n

pub at_frame : {A : Type 0} (g : ℕ → A) (n f : ℕ) (none : A) → f < n → get_or (by_frame g n) f none ≡ g f
at_frame g n f none inside = get_or-map-range_with_len g 0 n f f none inside (omega arith)

pub past_frames : {A : Type 0} (g : ℕ → A) (n f : ℕ) (none : A) → n ≤ f → get_or (by_frame g n) f none ≡ none
past_frames g n f none past = get_or_past (by_frame g n) f none (omega (arith, past, length_by g n))

-- two that are the same by each frame, and two that are the same by each other frame
pub same_by : {A : Type 0} (none : A) (g h : ℕ → A) (n : ℕ) → ((f : ℕ) → f < n → h f ≡ g f) → by_frame h n ≡ by_frame g n
same_by none g h n same =
    ext_get_or none (by_frame h n) (by_frame g n) (length_by h n ∙ sym (length_by g n))
    (λ f inside.
    let within : f < n = omega (arith, inside, length_by h n) in
    at_frame h n f none within ∙ same f within ∙ sym (at_frame g n f none within))

pub set_by : {A : Type 0} (none : A) (g h : ℕ → A) (n a : ℕ) (v : A) → a < n → h a ≡ v
    → ((f : ℕ) → f < n → f ≢ a → h f ≡ g f) → by_frame h n ≡ set (by_frame g n) a v
set_by none g h n a v here is same =
    ext_get_or none (by_frame h n) (set (by_frame g n) a v)
    (length_by h n ∙ sym (length-set (by_frame g n) a v ∙ length_by g n))
    (λ f inside.
    let within : f < n = omega (arith, inside, length_by h n) in
    at_frame h n f none within
    ∙ elim (cases_eq f a) [
      | inl it ↦
          let room : a < length (by_frame g n) = omega (arith, here, length_by g n) in
          ap h it ∙ is ∙ sym (ap (λ k. get_or (set (by_frame g n) a v) k none) it ∙ get_or-set_same (by_frame g n) a v none room)
      | inr apart ↦
          same f within apart ∙ sym (get_or-set_other (by_frame g n) a f v none apart ∙ at_frame g n f none within)
    ])

-- how many frames there are
pub frames_in : (frames : ℕ) (m : List ℕ) → HoldsDescriptors frames m → length m / 4096 ≡ frames
frames_in frames m held = omega (arith, held.size)

-- descriptors by frame
pub kind_within : (m : List ℕ) (f : ℕ) → f < length m / 4096 → kind_of (kinds_in m) f ≡ kind_by (field_in m 0 f)
unfolding descriptors_in
kind_within m f inside = at_frame (λ g. kind_by (field_in m 0 g)) (length m / 4096) f Hidden inside

pub kind_past : (m : List ℕ) (f : ℕ) → length m / 4096 ≤ f → kind_of (kinds_in m) f ≡ Hidden
unfolding descriptors_in
kind_past m f past = past_frames (λ g. kind_by (field_in m 0 g)) (length m / 4096) f Hidden past

pub loose_within : (m : List ℕ) (f : ℕ) → f < length m / 4096 → get_or (descriptors_in m).loose f 0 ≡ field_in m 4 f
unfolding descriptors_in
loose_within m f inside = at_frame (field_in m 4) (length m / 4096) f 0 inside

pub loose_past : (m : List ℕ) (f : ℕ) → length m / 4096 ≤ f → get_or (descriptors_in m).loose f 0 ≡ 0
unfolding descriptors_in
loose_past m f past = past_frames (field_in m 4) (length m / 4096) f 0 past

pub links_within : (m : List ℕ) (f : ℕ) → f < length m / 4096 → get_or (descriptors_in m).links f 0 ≡ field_in m 8 f
unfolding descriptors_in
links_within m f inside = at_frame (field_in m 8) (length m / 4096) f 0 inside

pub links_past : (m : List ℕ) (f : ℕ) → length m / 4096 ≤ f → get_or (descriptors_in m).links f 0 ≡ 0
unfolding descriptors_in
links_past m f past = past_frames (field_in m 8) (length m / 4096) f 0 past

-- so many frames in each list
pub descriptor_count : (frames : ℕ) (m : List ℕ) → HoldsDescriptors frames m
    → (length (kinds_in m) ≡ frames) × (length (descriptors_in m).loose ≡ frames) × (length (descriptors_in m).links ≡ frames)
unfolding descriptors_in
descriptor_count frames m held = (
  length_by (λ g. kind_by (field_in m 0 g)) (length m / 4096) ∙ frames_in frames m held,
  length_by (field_in m 4) (length m / 4096) ∙ frames_in frames m held,
  length_by (field_in m 8) (length m / 4096) ∙ frames_in frames m held,
)

-- the same fields give the same descriptors
pub kinds_alike : (m n : List ℕ) → length n ≡ length m → ((f : ℕ) → f < length m / 4096 → field_in n 0 f ≡ field_in m 0 f)
    → (descriptors_in n).kinds ≡ (descriptors_in m).kinds
unfolding descriptors_in
kinds_alike m n size same =
    ap (λ k. by_frame (λ g. kind_by (field_in n 0 g)) (k / 4096)) size
    ∙ same_by Hidden (λ g. kind_by (field_in m 0 g)) (λ g. kind_by (field_in n 0 g)) (length m / 4096) (λ f inside. ap kind_by (same f inside))

pub loose_alike : (m n : List ℕ) → length n ≡ length m → ((f : ℕ) → f < length m / 4096 → field_in n 4 f ≡ field_in m 4 f)
    → (descriptors_in n).loose ≡ (descriptors_in m).loose
unfolding descriptors_in
loose_alike m n size same =
    ap (λ k. by_frame (field_in n 4) (k / 4096)) size
    ∙ same_by 0 (field_in m 4) (field_in n 4) (length m / 4096) same

pub links_alike : (m n : List ℕ) → length n ≡ length m → ((f : ℕ) → f < length m / 4096 → field_in n 8 f ≡ field_in m 8 f)
    → (descriptors_in n).links ≡ (descriptors_in m).links
unfolding descriptors_in
links_alike m n size same =
    ap (λ k. by_frame (field_in n 8) (k / 4096)) size
    ∙ same_by 0 (field_in m 8) (field_in n 8) (length m / 4096) same

pub kinds_set : (m n : List ℕ) (a : ℕ) (kind : Kind) → length n ≡ length m → a < length m / 4096 → kind_by (field_in n 0 a) ≡ kind
    → ((f : ℕ) → f < length m / 4096 → f ≢ a → field_in n 0 f ≡ field_in m 0 f)
    → (descriptors_in n).kinds ≡ set (descriptors_in m).kinds a kind
unfolding descriptors_in
kinds_set m n a kind size inside is same =
    ap (λ k. by_frame (λ g. kind_by (field_in n 0 g)) (k / 4096)) size
    ∙ set_by Hidden (λ g. kind_by (field_in m 0 g)) (λ g. kind_by (field_in n 0 g)) (length m / 4096) a kind inside is (λ f within apart. ap kind_by (same f within apart))

-- a store into the field of one kind changes the kind alone
pub kind_set_alone : (frames : ℕ) (m n : List ℕ) (a : ℕ) (kind : Kind) → length m ≡ 4096 * frames → a < frames → kind_by (field_in n 0 a) ≡ kind
    → ((f : ℕ) → f ≢ a → field_in n 0 f ≡ field_in m 0 f) → DiffersInField frames 0 m n
    → descriptors_in n ≡ record (descriptors_in m) { kinds = set (descriptors_in m).kinds a kind }
kind_set_alone frames m n a kind size inside is same differs =
    let kinds = kinds_set m n a kind differs.size (omega (arith, inside, size)) is (λ f within apart. same f apart) in
    let loose = loose_alike m n differs.size (λ f within. differs.others 4 f (inr (omega arith)) (omega arith) (omega (arith, within, size))) in
    let links = links_alike m n differs.size (λ f within. differs.others 8 f (inr (omega arith)) (omega arith) (omega (arith, within, size))) in
    λ j. record { kinds = kinds j; loose = loose j; links = links j }

-- the form stays, where both numbers that it speaks of do, and the bytes behind the descriptors
pub held_stays : (frames : ℕ) (m n : List ℕ) → HoldsDescriptors frames m → length n ≡ length m
    → ((f : ℕ) → f < frames → field_in n 0 f ≡ field_in m 0 f) → ((f : ℕ) → f < frames → field_in n 12 f ≡ field_in m 12 f)
    → ((p : ℕ) → 0x40000 + 16 * frames ≤ p → is_book_frame frames (p / 4096) ≡ true → byte_at n p ≡ byte_at m p)
    → HoldsDescriptors frames n
held_stays frames m n held size words unused behind = record {
  least = held.least;
  size = size ∙ held.size;
  kinds = λ f inside. words f inside ∙ held.kinds f inside ∙ ap (λ w. word_of (kind_by w)) (sym (words f inside));
  unused = λ f inside. unused f inside ∙ held.unused f inside;
  behind = λ p past book. behind p past book ∙ held.behind p past book;
}
