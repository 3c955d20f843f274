-- The frames of the nested kernel's books are hidden, and no translation that respects the kinds names one.
use Rattle.std.proofs.Common.{◌≡◌, ℕ, ◌+◌, ◌-◌, ◌/◌, ◌<◌, ◌≤◌, ◌==◌, ◌&&◌, ◌||◌, Bool, true, false, List, refl, sym, ap, subst, ◌∙◌, arith, inl, inr}
use Rattle.std.specs.Prelude.{IfSome, Option, Some, None, nat_le, nat_lt, if◌then◌else◌, slice_index}
use Rattle.std.specs.List.{position}
use Rattle.std.proofs.lemmas.Bool.{agree_below_at, and_parts, cases_Bool, cases_lt, cond-false, cond-true, false_from_ne_true, false≢true, le-leb, le-ltb, leb-true, lt-ltb, ltb-true}
use Rattle.nk_bits.specs.declared.kind.Kind.{Kind}
use Rattle.nk_bits.specs.declared.kind.Kind.TheVariants.{Data, Code, Table, Fixed, Trap, Guarded, Hidden}
use Rattle.nk_bits.specs.declared.leaf.Leaf.{Leaf}
use Rattle.nk_bits.specs.Kinds.{allows, is_hidden, is_storable, kind_of, level_of}
use Rattle.nk_bits.specs.Paging.{is_slot_page}
use Rattle.phys_mem.specs.MaskedMemory.{is_book_frame}
use Rattle.elf_image.specs.Pages.{is_executable, is_writable, pages_of}
use Rattle.boot_map.specs.declared.part.Part.{Part}
use Rattle.boot_map.specs.declared.part.Part.TheVariants.{Free, ImagePage, MapDirectory, MapRoot, MapTable, RangeTable}
use Rattle.boot_map.specs.Division.{Division, division_of, free_start, map_start, pages_start, tables_start}
use Rattle.boot_map.specs.KernelSlot.{area_leaf, image_leaf, slot_leaf, slot_start}
use Rattle.boot_map.specs.OpeningKinds.{kind_at, kind_of_part, kinds}
use Rattle.boot_map.specs.Parts.{common_part, part_at, sized_part}
use Rattle.nk_body.specs.KindsKept.{is_reserved}
use Rattle.gate_state.specs.GuardedStates.{AreKinds, IsAdmitted}
use Rattle.gate_state.specs.MachineStates.{Opening}
use Rattle.gate_state.specs.RespectedKinds.{respects}
use Rattle.gate_state.proofs.LowerLaws.{LowerLaws}
use Rattle.gate_state.proofs.SceneProofsRespects.{leaf_within, respects_outside}
use Rattle.gate_state.proofs.SceneProofsWalks.{kind_is}

-- where they lie
book_bounds : (frames f : ℕ) → is_book_frame frames f ≡ true → (26 ≤ f) × (f < 64 + (frames + 255) / 256)
unfolding is_book_frame
book_bounds frames f is =
    let parts = and_parts (nat_le 26 f) (nat_lt f (64 + (frames + 255) / 256)) is in
    (leb-true 26 f parts.0, ltb-true f (64 + (frames + 255) / 256) parts.1)

below_books : (frames f : ℕ) → f < 26 → is_book_frame frames f ≡ false
below_books frames f low =
    false_from_ne_true (is_book_frame frames f) (λ is. let at = book_bounds frames f is in omega (arith, low, at.0))

above_books : (frames f : ℕ) → 64 + (frames + 255) / 256 ≤ f → is_book_frame frames f ≡ false
above_books frames f high =
    false_from_ne_true (is_book_frame frames f) (λ is. let at = book_bounds frames f is in omega (arith, high, at.1))

-- what an opening has there is hidden
hidden_is : (kind : Kind) → is_hidden kind ≡ true → kind ≡ Hidden
hidden_is Data is = absurd (false≢true is)
hidden_is Code is = absurd (false≢true is)
hidden_is (Table level) is = absurd (false≢true is)
hidden_is Fixed is = absurd (false≢true is)
hidden_is Trap is = absurd (false≢true is)
hidden_is Guarded is = absurd (false≢true is)
hidden_is Hidden is = refl

passed_over : (a b : Bool) → (a || b) ≡ true → a ≡ false → b ≡ true
passed_over true b is off = absurd (false≢true (sym off))
passed_over false b is off = is

common_hidden : (b : List ℕ) (f : ℕ) → 26 ≤ f → f < 64 → kind_of_part b (common_part f) ≡ Hidden
common_hidden b f low high =
    hidden_is (kind_of_part b (common_part f))
    (passed_over (nat_lt f 26) (is_hidden (kind_of_part b (common_part f)))
    (agree_below_at (λ n. nat_lt n 26 || is_hidden (kind_of_part b (common_part n))) (λ n. true) 64 f refl high)
    (le-ltb f 26 low))

opened_hidden : (b : List ℕ) (frames f : ℕ) → is_book_frame frames f ≡ true → kind_at b frames f ≡ Hidden
unfolding kind_at part_at
opened_hidden b frames f is =
    let d : Division = division_of b frames in
    let at = book_bounds frames f is in
    elim (cases_lt f 64) [
      | inl low ↦
          ap (kind_of_part b) (cond-true (nat_lt f 64) (common_part f) (sized_part d f) (lt-ltb f 64 low))
          ∙ common_hidden b f at.0 low
      | inr high ↦
          ap (kind_of_part b) (cond-false (nat_lt f 64) (common_part f) (sized_part d f) (le-ltb f 64 high)
          ∙ cond-true (nat_lt f (tables_start d)) _ _ (lt-ltb f (tables_start d) at.1))
    ]

-- and nothing else is: of the frames that every opening has alike, and of those behind them
common_books : (b : List ℕ) (f : ℕ) → f < 64 → is_hidden (kind_of_part b (common_part f)) ≡ nat_le 26 f
common_books b f low =
    agree_below_at (λ n. is_hidden (kind_of_part b (common_part n))) (λ n. nat_le 26 n) 64 f refl low

either_shown : (b : List ℕ) (c : Bool) (x y : Part) → is_hidden (kind_of_part b x) ≡ false
    → is_hidden (kind_of_part b y) ≡ false → is_hidden (kind_of_part b (if c then x else y)) ≡ false
either_shown b true x y first second = first
either_shown b false x y first second = second

page_shown : (executable : Bool) → is_hidden (if executable then Code else Data) ≡ false
page_shown true = refl
page_shown false = refl

sized_shown : (b : List ℕ) (d : Division) (f : ℕ) → tables_start d ≤ f → is_hidden (kind_of_part b (sized_part d f)) ≡ false
sized_shown b d f past =
    ap (λ (part : Part). is_hidden (kind_of_part b part)) (cond-false (nat_lt f (tables_start d)) _ _ (le-ltb f (tables_start d) past))
    ∙ either_shown b (nat_lt f (pages_start d)) (RangeTable (f - tables_start d)) _ refl
    (either_shown b (nat_lt f (map_start d)) (ImagePage (f - pages_start d)) _
    (page_shown (is_executable b (slice_index (pages_of b) (f - pages_start d))))
    (either_shown b (f == map_start d) MapRoot _ refl
    (either_shown b (f == map_start d + 1) MapDirectory _ refl
    (either_shown b (nat_lt f (free_start d)) (MapTable (f - (map_start d + 2))) Free refl refl))))

hidden_opened : (b : List ℕ) (frames f : ℕ) → kind_at b frames f ≡ Hidden → is_book_frame frames f ≡ true
unfolding kind_at part_at is_book_frame
hidden_opened b frames f is =
    let d : Division = division_of b frames in
    elim (cases_lt f 64) [
      | inl low ↦
          let common : kind_at b frames f ≡ kind_of_part b (common_part f) =
          ap (kind_of_part b) (cond-true (nat_lt f 64) (common_part f) (sized_part d f) (lt-ltb f 64 low)) in
          and_both (nat_le 26 f) (nat_lt f (64 + (frames + 255) / 256))
          (sym (common_books b f low) ∙ ap is_hidden (sym common ∙ is))
          (lt-ltb f (64 + (frames + 255) / 256) (omega (arith, low)))
      | inr high ↦ elim (cases_lt f (tables_start d)) [
        | inl inside ↦
            and_both (nat_le 26 f) (nat_lt f (64 + (frames + 255) / 256)) (le-leb 26 f (omega (arith, high)))
            (lt-ltb f (64 + (frames + 255) / 256) inside)
        | inr past ↦
            let sized : kind_at b frames f ≡ kind_of_part b (sized_part d f) =
            ap (kind_of_part b) (cond-false (nat_lt f 64) (common_part f) (sized_part d f) (le-ltb f 64 high)) in
            absurd (false≢true (sym (sized_shown b d f past) ∙ ap is_hidden (sym sized ∙ is)))
      ]
    ]
  where
    and_both : (a b : Bool) → a ≡ true → b ≡ true → (a && b) ≡ true
    and_both true true first second = refl
    and_both true false first second = second
    and_both false b first second = first

-- the leaves of the layout lie apart from them
abbrev Apart : ℕ → Option Leaf → Type 0
Apart frames found = IfSome found (λ leaf. is_book_frame frames leaf.frame ≡ false)

apart_choice : (frames : ℕ) (b : Bool) (one other : Option Leaf) → (b ≡ true → Apart frames one) → Apart frames other
    → Apart frames (if b then one else other)
apart_choice frames true one other first second = first refl
apart_choice frames false one other first second = second

area_apart : (frames n : ℕ) → Apart frames (area_leaf n)
area_apart frames n =
    apart_choice frames (n == 0) _ _ (λ is. below_books frames 0 (omega arith))
    (apart_choice frames (n == 1) _ _ (λ is. below_books frames 1 (omega arith))
    (apart_choice frames (n == 2) _ _ (λ is. below_books frames 2 (omega arith))
    (apart_choice frames (n == 3) _ _ (λ is. below_books frames 3 (omega arith))
    (apart_choice frames (n == 4) _ _ (λ is. below_books frames 4 (omega arith))
    (apart_choice frames (nat_le 16 n && nat_lt n 32) _ None
    (λ is. let few : n < 32 = ltb-true n 32 (and_parts (nat_le 16 n) (nat_lt n 32) is).1 in
    below_books frames (10 + (n - 16)) (omega (arith, few))) tt)))))

image_apart : (b : List ℕ) (frames first page : ℕ) (place : Option ℕ) → 64 + (frames + 255) / 256 ≤ first
    → Apart frames (image_leaf b first page place)
image_apart b frames first page None from = tt
image_apart b frames first page (Some k) from =
    let apart : is_book_frame frames (first + k) ≡ false = above_books frames (first + k) (omega (arith, from)) in
    apart_choice frames (is_executable b page) _ _ (λ is. apart)
    (apart_choice frames (is_writable b page) _ _ (λ is. apart) apart)

laid_apart : (b : List ℕ) (frames page : ℕ) → Apart frames (slot_leaf b frames page)
unfolding slot_leaf
laid_apart b frames page =
    apart_choice frames (nat_lt page (slot_start + 32)) _ _ (λ is. area_apart frames (page - slot_start))
    (image_apart b frames (pages_start (division_of b frames)) page (position (λ m. m == page) (pages_of b))
    (omega arith))

module _ (laws : LowerLaws) (o : Opening) (ks : List Kind) (admitted : IsAdmitted o) (kinds_are : AreKinds o ks) where
  abbrev pub is_book : ℕ → Bool
  is_book = is_book_frame o.frames

  -- their kind is Hidden for good
  pub book_hidden : (f : ℕ) → is_book f ≡ true → kind_of ks f ≡ Hidden
  book_hidden f is =
      let at = book_bounds o.frames f is in
      let inside : f < o.frames = omega (arith, admitted.layout.least, at.1) in
      kind_is laws o ks admitted kinds_are f Hidden inside (opened_hidden o.image o.frames f is) refl

  -- and no other frame's is
  pub hidden_book : (f : ℕ) → f < o.frames → kind_of ks f ≡ Hidden → is_book f ≡ true
  hidden_book f inside is =
      let opened : kind_of ks f ≡ kind_of (kinds o.image o.frames) f = kinds_are.reserved f (ap is_reserved is) in
      hidden_opened o.image o.frames f (sym (laws.opening_kinds.each o.image o.frames f inside) ∙ sym opened ∙ is)

  -- so a frame of another kind is none of them
  pub apart_from : (f : ℕ) → (kind_of ks f ≡ Hidden → ⊥) → is_book f ≡ false
  apart_from f never = false_from_ne_true (is_book f) (λ is. never (book_hidden f is))

  pub storable_apart : (f : ℕ) → is_storable (kind_of ks f) ≡ true → is_book f ≡ false
  storable_apart f storable = apart_from f (λ is. false≢true (sym (ap is_storable is) ∙ storable))

  pub table_apart : (f : ℕ) → 1 ≤ level_of (kind_of ks f) → is_book f ≡ false
  table_apart f table =
      apart_from f (λ is. let none : level_of (kind_of ks f) ≡ 0 = ap level_of is in omega (arith, table, none))

  pub fixed_apart : (f : ℕ) → kind_of ks f ≡ Fixed → is_book f ≡ false
  fixed_apart f fixed = apart_from f (λ is. false≢true (ap is_hidden (sym fixed ∙ is)))

  -- nor is one that a translation names which respects the kinds
  pub respected_apart : (pair : ℕ × Leaf) → respects o ks pair ≡ true → is_book pair.1.frame ≡ false
  respected_apart pair is = elim (cases_Bool (is_slot_page pair.0)) [
    | inl within ↦
        subst (Apart o.frames) (leaf_within o ks pair.0 pair.1 within is) (laid_apart o.image o.frames pair.0)
    | inr outside ↦
        apart_from pair.1.frame (λ hidden. false≢true (sym (ap (λ kind. allows kind pair.1.rights) hidden)
        ∙ sym (respects_outside o ks pair.0 pair.1 outside) ∙ is))
  ]
