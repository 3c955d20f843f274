-- The place of a name among files.
use Rattle.std.proofs.Common.{◌≡◌, ◌≢◌, ℕ, ◌+◌, ◌-◌, ◌^◌, ◌<◌, ◌≤◌, Bool, true, false, cond, not, if◌then◌else◌, List, [], ◌∷◌, length, map, get_or, slice_index, slice_set, refl, ap, sym, ◌∙◌, ⊎_elim, Option, Some, None, IsSome, position, arith, get_or-set_same, get_or-set_other}
use Rattle.std.specs.List.{position_or_len}
use Rattle.std.proofs.lemmas.List.{length-map}
use Rattle.std.proofs.lemmas.Bool.{cases_eq, false≢true}
use Rattle.std.proofs.lemmas.List.Quantifiers.{position-Some}
use Rattle.std.proofs.lemmas.Slice.Eq.{bytes_eq-Decides}
use Rattle.nk_host.specs.FaultCounts.{raised, NeverFalls, OnlyAt}
use Rattle.nk_host.specs.ShelfInMemory.{NamedFile, Stock, at_place, name_place, file_of, count_of, with_fault, read_fails, after_read}

abbrev pub no_file : NamedFile
no_file = record { name = []; bytes = [] }

-- the first place in the images is the first place whose image passes
position_or_len-map : {A B : Type 0} (p : B → Bool) (f : A → B) (xs : List A) → position_or_len p (map f xs) ≡ position_or_len (λ x. p (f x)) xs
position_or_len-map p f [] = refl
position_or_len-map p f (x ∷ xs) = ap (λ n. cond (not (p (f x))) (1 + n) 0) (position_or_len-map p f xs)

pub position-map : {A B : Type 0} (p : B → Bool) (f : A → B) (xs : List A) → position p (map f xs) ≡ position (λ x. p (f x)) xs
position-map p f xs = rw (position_or_len-map p f xs, length-map xs f) refl

-- ---- counts by name

-- a place that is found lies within the list
pub place_below : (files : List NamedFile) (name : List ℕ) (i : ℕ) → name_place files name ≡ Some i → i < length files
place_below files name i e = (position-Some _ files i no_file e).0

-- at the place of a name stands a file of that name
pub name_at : (files : List NamedFile) (name : List ℕ) (i : ℕ) → name_place files name ≡ Some i → (get_or files i no_file).name ≡ name
name_at files name i e = (bytes_eq-Decides _ name).0 (position-Some _ files i no_file e).1

-- two names that have one place are one
pub one_name : (files : List NamedFile) (m n : List ℕ) (i : ℕ) → name_place files m ≡ Some i → name_place files n ≡ Some i → m ≡ n
one_name files m n i e f = sym (name_at files m i e) ∙ name_at files n i f

-- ---- what a fault does to the counts, by places

-- the shelf with the count at a place raised
abbrev fault_at : Stock → Option ℕ → Stock
fault_at s p = at_place p (record s { others = raised s.others }) (λ i. record s { counts = slice_set s.counts i (raised (slice_index s.counts i)) })

-- the count at a place, where others have one more
abbrev counted : List ℕ → ℕ → Option ℕ → ℕ
counted counts others p = at_place p others (λ i. slice_index counts i)

raised_above : (n : ℕ) → n ≤ 2 ^ 64 - 1 → n ≤ raised n
raised_above n h = omega arith

-- a count in a list, where one of them was raised
set_above : (counts : List ℕ) (i j : ℕ) → i < length counts → slice_index counts i ≤ 2 ^ 64 - 1 → slice_index counts j ≤ slice_index (slice_set counts i (raised (slice_index counts i))) j
set_above counts i j below h = ⊎_elim
    (λ same. rw same (rw (get_or-set_same counts i (raised (slice_index counts i)) 0 below) (raised_above (slice_index counts i) h)))
    (λ apart. rw (get_or-set_other counts i j (raised (slice_index counts i)) 0 apart) (omega arith))
    (cases_eq j i)

-- no count falls where others' is raised
others_above : (counts : List ℕ) (others : ℕ) (q : Option ℕ) → others ≤ 2 ^ 64 - 1 → counted counts others q ≤ counted counts (raised others) q
others_above counts others None h = raised_above others h
others_above counts others (Some j) h = omega arith

-- no count falls where one of the list is raised
list_above : (counts : List ℕ) (others i : ℕ) (q : Option ℕ) → i < length counts → slice_index counts i ≤ 2 ^ 64 - 1
    → counted counts others q ≤ counted (slice_set counts i (raised (slice_index counts i))) others q
list_above counts others i None below h = omega arith
list_above counts others i (Some j) below h = set_above counts i j below h

fault_above : (s : Stock) (name : List ℕ) (p : Option ℕ) → name_place s.files name ≡ p → length s.files ≡ length s.counts → counted s.counts s.others p ≤ 2 ^ 64 - 1
    → (n : List ℕ) → count_of s n ≤ count_of (fault_at s p) n
fault_above s name None e same h n = others_above s.counts s.others (name_place s.files n) h
fault_above s name (Some i) e same h n =
    list_above s.counts s.others i (name_place s.files n) (omega (arith, place_below s.files name i e, same)) h

-- no name's count falls by a fault
pub never_falls : (s : Stock) (name : List ℕ) → length s.files ≡ length s.counts → count_of s name ≤ 2 ^ 64 - 1 → NeverFalls (count_of s) (count_of (with_fault s name))
never_falls s name same h n = fault_above s name (name_place s.files name) refl same h n

-- ---- the counts of other names that are held stay

set_stays : (counts : List ℕ) (i j v : ℕ) → j ≢ i → slice_index (slice_set counts i v) j ≡ slice_index counts j
set_stays counts i j v apart = grind (arith, get_or-set_other)

-- the count at a place that isn't the one raised
fault_stays : (s : Stock) (p : Option ℕ) (other : List ℕ) (j : ℕ) → name_place s.files other ≡ Some j → (p ≡ Some j → ⊥) → count_of (fault_at s p) other ≡ count_of s other
fault_stays s None other j e apart = rw e refl
fault_stays s (Some i) other j e apart = rw e (set_stays s.counts i j _ (λ same. apart (ap Some (sym same))))

-- a name that is held has a place
pub held_place : (files : List NamedFile) (name : List ℕ) (p : Option ℕ) → name_place files name ≡ p → IsSome (file_of files name) → (i : ℕ) × (name_place files name ≡ Some i)
held_place files name None e held = absurd (false≢true (rw e at held))
held_place files name (Some i) e held = (i, e)

pub others_stay : (s : Stock) (name : List ℕ) → OnlyAt (file_of s.files) (count_of s) (count_of (with_fault s name)) name
others_stay s name other held apart =
    let (j, e) = held_place s.files other _ refl held in
    fault_stays s (name_place s.files name) other j e (λ same. apart (one_name s.files other name j e same))

-- ---- a read

-- the shelf once the next read began
abbrev begun : Stock → Stock
begun s = record s { reads = raised s.reads }

-- the shelf after a read that fails or not
abbrev after_begun : Bool → Stock → List ℕ → Stock
after_begun b s name = if b then with_fault (begun s) name else begun s

begun_above : (b : Bool) (s : Stock) (name : List ℕ) → (b ≡ true → length s.files ≡ length s.counts) → (b ≡ true → count_of s name ≤ 2 ^ 64 - 1) → NeverFalls (count_of s) (count_of (after_begun b s name))
begun_above true s name same h = never_falls (begun s) name (same refl) (h refl)
begun_above false s name same h = λ n. omega arith

pub read_never_falls : (s : Stock) (name : List ℕ) → (read_fails s name ≡ true → length s.files ≡ length s.counts) → (read_fails s name ≡ true → count_of s name ≤ 2 ^ 64 - 1) → NeverFalls (count_of s) (count_of (after_read s name))
read_never_falls s name same h = begun_above (read_fails s name) s name same h

begun_only_at : (b : Bool) (s : Stock) (name : List ℕ) → OnlyAt (file_of s.files) (count_of s) (count_of (after_begun b s name)) name
begun_only_at true s name = others_stay (begun s) name
begun_only_at false s name = λ other held apart. refl

pub read_only_at : (s : Stock) (name : List ℕ) → OnlyAt (file_of s.files) (count_of s) (count_of (after_read s name)) name
read_only_at s name = begun_only_at (read_fails s name) s name
