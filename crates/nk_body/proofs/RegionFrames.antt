-- Where the bytes of regions stand: in frames that are guarded, which no page table and no byte that never changes is part of.
use Rattle.std.proofs.Common.{◌≡◌, ◌≢◌, ◌⊎◌, ℕ, zero, suc, ◌+◌, ◌*◌, ◌/◌, ◌%◌, ◌<◌, ◌≤◌, Bool, true, false, List, [], ◌∷◌, length, arith, refl, sym, ap, subst, ◌∙◌, inl, inr}
use Rattle.std.specs.Prelude.{slice_index, slice_index_or, not, ◌&&◌, ◌||◌, ◌==◌, cond, Option, None, Some, IfSome, All}
use Rattle.std.specs.List.{find, range_with_len}
use Rattle.std.proofs.lemmas.Bool.{cases_lt, false≢true}
use Rattle.std.proofs.lemmas.Option.{same_Some}
use Rattle.std.proofs.lemmas.List.{get_or_past}
use Rattle.std.proofs.lemmas.List.Elements.{All-cons, All-nil, All-weaker}
use Rattle.nk_bits.specs.declared.kind.Kind.{Kind}
use Rattle.nk_bits.specs.declared.kind.Kind.TheVariants.{Fixed, Guarded, Hidden}
use Rattle.nk_bits.specs.Kinds.{is_guarded, is_hidden, kind_of}
use Rattle.phys_mem.specs.Memory.{stored}
use Rattle.page_desc.specs.PageTables.{is_handler_byte, is_unchanging, is_table, is_unguarded}
use Rattle.region_book.specs.RegionRecords.{Book, RegionRecord, byte_place, region_of, region_stores}
use Rattle.nk_body.specs.NestedRecord.{handler_in}
use Rattle.nk_body.proofs.LowerLaws.{LowerLaws}

-- where the element stands that is found
pub found_place : {X : Type 0} (p : X → Bool) (xs : List X) (x : X) → find p xs ≡ Some x
    → (i : ℕ) × (i < length xs) × ((d : X) → slice_index_or xs i d ≡ x) × (p x ≡ true)
found_place {X = X} p [] x found = let no : None ≡ Some x = found in cc
found_place {X = X} p (y ∷ xs) x found = go (p y) refl found (λ later. found_place p xs x later)
  where
    go : (here : Bool) → p y ≡ here → cond here (Some y) (find p xs) ≡ Some x
        → (find p xs ≡ Some x → (i : ℕ) × (i < length xs) × ((d : X) → slice_index_or xs i d ≡ x) × (p x ≡ true))
        → (i : ℕ) × (i < length (y ∷ xs)) × ((d : X) → slice_index_or (y ∷ xs) i d ≡ x) × (p x ≡ true)
    go true here is later = (0, omega arith, λ d. same_Some y x is, ap p (sym (same_Some y x is)) ∙ here)
    go false here is later = let at = later is in (suc at.0, omega (arith, at.1), λ d. at.2 d, at.3)

-- what holds of each region holds of the one that is found
pub found_holds : (P : RegionRecord → Type 0) (book : Book) (id : ℕ) (r : RegionRecord) → region_of book id ≡ Some r → All P book.regions → P r
found_holds P book id r found all =
    let at = found_place (λ x. x.id == id) book.regions r found in
    subst P (at.2 r) (all at.0 r at.1)

pub if_found : (P Q : RegionRecord → Type 0) → ((r : RegionRecord) → P r → Q r) → (book : Book) (id : ℕ) → All P book.regions → IfSome (region_of book id) Q
if_found P Q weaker book id all = go (region_of book id) refl
  where
    go : (o : Option RegionRecord) → region_of book id ≡ o → IfSome o Q
    go None is = tt
    go (Some r) is = weaker r (found_holds P book id r is all)

-- what holds of each frame of a region holds of the frames of its bytes
pub stores_held : (P : ℕ → Type 0) (r : RegionRecord) (offset : ℕ) (bs : List ℕ) → All P r.frames → r.place + r.size ≤ 4096 * length r.frames
    → offset + length bs ≤ r.size → All (λ w. P (w.0 / 4096)) (region_stores r offset bs)
unfolding region_stores
stores_held P r offset [] all held fits = All-nil (λ (w : ℕ × ℕ). P (w.0 / 4096))
stores_held P r offset (b ∷ bs) all held fits =
    let frame : byte_place r offset / 4096 ≡ slice_index r.frames ((r.place + offset) / 4096) = omega arith in
    let inside : (r.place + offset) / 4096 < length r.frames = omega (arith, held, fits) in
    All-cons (λ (w : ℕ × ℕ). P (w.0 / 4096)) (byte_place r offset, b) (region_stores r (offset + 1) bs)
    (subst P (sym frame) (all ((r.place + offset) / 4096) 0 inside))
    (stores_held P r (offset + 1) bs all held (omega (arith, fits)))

-- the bytes that are stored are those that are given
pub stores_bytes : (P : ℕ → Type 0) (r : RegionRecord) (offset : ℕ) (bs : List ℕ) → All P bs → All (λ w. P w.1) (region_stores r offset bs)
unfolding region_stores
stores_bytes P r offset [] all = All-nil (λ (w : ℕ × ℕ). P w.1)
stores_bytes P r offset (b ∷ bs) all =
    All-cons (λ (w : ℕ × ℕ). P w.1) (byte_place r offset, b) (region_stores r (offset + 1) bs) (all 0 0 (omega arith))
    (stores_bytes P r (offset + 1) bs (λ k d below. all (suc k) d (omega (arith, below))))

-- a frame of a kind that isn't Hidden lies in memory
pub in_memory : (kinds : List Kind) (f : ℕ) (kind : Kind) → is_hidden kind ≡ false → kind_of kinds f ≡ kind → f < length kinds
in_memory kinds f kind shown is = elim (cases_lt f (length kinds)) [
  | inl inside ↦ inside
  | inr past ↦ absurd (false≢true (sym shown ∙ ap is_hidden (sym is) ∙ ap is_hidden (get_or_past kinds f Hidden past)))
]

-- the pool's frames
pub run_below : (P : ℕ → Type 0) (a n : ℕ) → ((f : ℕ) → a ≤ f → f < a + n → P f) → All P (range_with_len a n)
run_below P a zero each = All-nil P
run_below P a (suc n) each =
    All-cons P a (range_with_len (a + 1) n) (each a (omega arith) (omega arith))
    (run_below P (a + 1) n (λ f least most. each f (omega (arith, least)) (omega (arith, most))))

-- stores in guarded frames
abbrev pub InGuarded : List Kind → List (ℕ × ℕ) → Type 0
InGuarded kinds ws = All (λ w. kind_of kinds (w.0 / 4096) ≡ Guarded) ws

module _ (kinds : List Kind) (ws : List (ℕ × ℕ)) (are : InGuarded kinds ws) where
  pub unguarded : All (λ w. is_unguarded kinds w.0 ≡ true) ws
  unguarded =
      All-weaker (λ (w : ℕ × ℕ). kind_of kinds (w.0 / 4096) ≡ Guarded) (λ (w : ℕ × ℕ). is_unguarded kinds w.0 ≡ true)
      (λ w is. ap (λ k. not (is_table k) && (not (is_unchanging k) || is_handler_byte (w.0 / 4096) (w.0 % 4096))) is) ws are

  -- the handler's frame is fixed
  pub handler_aside : LowerLaws → (m : List ℕ) → kind_of kinds 2 ≡ Fixed → handler_in (stored m ws) ≡ handler_in m
  unfolding handler_in
  handler_aside laws m fixed =
      laws.byte.memory.number_elsewhere m ws 8 0x2000
      (All-weaker (λ (w : ℕ × ℕ). kind_of kinds (w.0 / 4096) ≡ Guarded) (λ (w : ℕ × ℕ). (w.0 < 0x2000) ⊎ (0x2000 + 8 ≤ w.0))
      (λ w is. beside w.0 (λ two. false≢true (sym (ap is_guarded fixed) ∙ ap (λ n. is_guarded (kind_of kinds n)) (sym two) ∙ ap is_guarded is))) ws are)
    where
      beside : (place : ℕ) → place / 4096 ≢ 2 → (place < 0x2000) ⊎ (0x2000 + 8 ≤ place)
      beside place other = elim (cases_lt place 0x2000) [
        | inl below ↦ inl below
        | inr above ↦ inr (elim (cases_lt place 0x3000) [ inl within ↦ absurd (other (omega arith)) | inr past ↦ omega arith ])
      ]
