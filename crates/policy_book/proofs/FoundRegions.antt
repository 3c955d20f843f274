-- The region that an identifier names: it has the identifier, and is at most 65,536 bytes long.
use Rattle.std.proofs.Common.{◌≡◌, ℕ, ◌≤◌, ◌+◌, Bool, true, false, List, [], ◌∷◌, arith, refl}
use Rattle.std.specs.Prelude.{◌==◌, All, IfSome, None, Option, Some, cond}
use Rattle.std.specs.List.{find}
use Rattle.std.proofs.lemmas.Bool.{and_parts, eqb-true, leb-true}
use Rattle.std.proofs.lemmas.List.Elements.{All-tail}
use Rattle.std.proofs.lemmas.Option.{IfSome_then}
use Rattle.region_book.specs.RegionCalls.{fits_region}
use Rattle.region_book.specs.RegionRecords.{Book, IsBook, IsRegion, RegionRecord, region_of}

-- what is found passes the test, and has what all have
found : {X : Type 0} (p : X → Bool) (P : X → Type 0) (xs : List X) → All P xs → IfSome (find p xs) (λ x. (p x ≡ true) × P x)
found p P [] all = tt
found {X = X} p P (x ∷ xs) all = go (p x) (λ is. is) (found p P xs (All-tail P x xs all))
  where
    go : (here : Bool) → (here ≡ true → p x ≡ true) → IfSome (find p xs) (λ x. (p x ≡ true) × P x) →
        IfSome (cond here (Some x) (find p xs)) (λ x. (p x ≡ true) × P x)
    go true is later = (is refl, all 0 x (omega arith))
    go false is later = later

pub has_id : (book : Book) (id : ℕ) → IfSome (region_of book id) (λ r. r.id ≡ id)
has_id book id =
    IfSome_then (region_of book id) (found (λ r. r.id == id) (λ r. Unit {0}) book.regions (λ k r below. tt)) (λ r holds. eqb-true r.id id holds.0)

is_sound : (book : Book) (id : ℕ) → IsBook book → IfSome (region_of book id) (IsRegion book.next)
is_sound book id sound =
    IfSome_then (region_of book id) (found (λ r. r.id == id) (IsRegion book.next) book.regions sound.each) (λ r holds. holds.1)

pub has_size : (book : Book) (id : ℕ) → IsBook book → IfSome (region_of book id) (λ r. r.size ≤ 65536)
has_size book id sound = IfSome_then (region_of book id) (is_sound book id sound) (λ r live. live.size.1)

-- a range that fits is short
pub fits_short : (o : Option RegionRecord) (offset count : ℕ) → IfSome o (λ r. r.size ≤ 65536) → fits_region o offset count ≡ true → offset + count ≤ 65536
fits_short None offset count short fits = let no : false ≡ true = fits in cc
fits_short (Some r) offset count short fits = omega (arith, short, leb-true (offset + count) r.size (and_parts _ _ fits).1)
