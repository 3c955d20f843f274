-- A call takes at most as many bytes as a region has, 65,536.
use Rattle.std.proofs.Common.{◌≡◌, ℕ, ◌+◌, ◌≤◌, Bool, true, false, List, [], ◌∷◌, All, refl, arith}
use Rattle.std.specs.Prelude.{IfSome, Option, None, Some, ◌==◌, nat_le, if◌then◌else◌}
use Rattle.std.specs.List.{find}
use Rattle.std.proofs.lemmas.Bool.{and_parts, false≢true, leb-true}
use Rattle.std.proofs.lemmas.List.Elements.{All-head, All-tail}
use Rattle.region_book.specs.RegionCalls.{fits_in, fits_region}
use Rattle.region_book.specs.RegionRecords.{Book, IsBook, IsRegion, RegionRecord, region_of}
use Rattle.nk_body.specs.declared.call.Call.{Call}
use Rattle.nk_body.specs.declared.call.Call.TheVariants.{Write}
use Rattle.nk_body.specs.CallRules.{wants}

-- what holds of each region holds of the one that is found
found_holds : (P : RegionRecord → Type 0) (test : RegionRecord → Bool) (rs : List RegionRecord) → All P rs → IfSome (find test rs) P
found_holds P test [] all = tt
found_holds P test (r ∷ rs) all =
    choice (test r) (All-head P r rs all) (found_holds P test rs (All-tail P r rs all))
  where
    choice : (b : Bool) → P r → IfSome (find test rs) P → IfSome (if b then Some r else find test rs) P
    choice true first rest = first
    choice false first rest = rest

-- a range that fits is no longer than that
fits_most : (next offset count : ℕ) (found : Option RegionRecord) → IfSome found (IsRegion next)
    → fits_region found offset count ≡ true → count ≤ 65536
fits_most next offset count None is fits = absurd (false≢true fits)
fits_most next offset count (Some r) is fits =
    let within : offset + count ≤ r.size =
    leb-true (offset + count) r.size (and_parts (nat_le 1 count) (nat_le (offset + count) r.size) fits).1 in
    let most : r.size ≤ 65536 = is.size.1 in
    omega arith

pub wants_most : (book : Book) (call : Call) (room : ℕ) → IsBook book → 65536 ≤ room
    → IfSome (wants book call) (λ count. count ≤ room)
wants_most book (Write id offset place n) room is roomy = choice (fits_in book id offset n) refl
  where
    choice : (b : Bool) → fits_in book id offset n ≡ b → IfSome (if b then Some n else None) (λ count. count ≤ room)
    choice true fits =
        let most : n ≤ 65536 = fits_most book.next offset n (region_of book id)
        (found_holds (IsRegion book.next) (λ r. r.id == id) book.regions is.each) fits in
        omega arith
    choice false none = tt
wants_most book _ room is roomy = tt
