-- A call takes at most as many bytes as a region has, 65,536.
use Rattle.std.proofs.Common.{◌≡◌, ℕ, ◌+◌, ◌==◌, ◌≤◌, Bool, true, false, List, [], ◌∷◌, All, Option, None, Some, refl, arith}
use Rattle.std.specs.Prelude.{IfSome, nat_le, if◌then◌else◌}
use Rattle.std.specs.List.{find}
use Rattle.std.proofs.lemmas.Bool.{and_parts, leb-true}
use Rattle.std.proofs.lemmas.List.Elements.{All-head, All-tail}
use Rattle.nk_body.specs.declared.call.Call.{Call}
use Rattle.nk_body.specs.declared.call.Call.TheVariants.{Write}
use Rattle.region_book.specs.RegionCalls.{fits_in, fits_region}
use Rattle.region_book.specs.RegionRecords.{Book, IsBook, IsRegion, RegionRecord, region_of}
use Rattle.nk_body.specs.CallRules.{wants}

-- the region that is found, if any, has at most that size
found_most : (next : ℕ) (test : RegionRecord → Bool) (rs : List RegionRecord) → All (IsRegion next) rs
    → IfSome (find test rs) (λ r. r.size ≤ 65536)
found_most next test [] all = tt
found_most next test (r ∷ rs) all =
    by_test (test r) (All-head (IsRegion next) r rs all).size.1
    (found_most next test rs (All-tail (IsRegion next) r rs all))
  where
    by_test : (found : Bool) → r.size ≤ 65536 → IfSome (find test rs) (λ r. r.size ≤ 65536)
        → IfSome (if found then Some r else find test rs) (λ r. r.size ≤ 65536)
    by_test true here later = here
    by_test false here later = later

fits_most : (region : Option RegionRecord) (offset count : ℕ) → IfSome region (λ r. r.size ≤ 65536)
    → fits_region region offset count ≡ true → count ≤ 65536
fits_most None offset count most fits = absurd (cc)
fits_most (Some r) offset count most fits =
    let parts = and_parts (nat_le 1 count) (nat_le (offset + count) r.size) fits in
    let within = leb-true (offset + count) r.size parts.1 in
    omega arith

pub wants_most : (book : Book) (call : Call) (room : ℕ) → IsBook book → 65536 ≤ room
    → IfSome (wants book call) (λ count. count ≤ room)
wants_most book (Write id offset place n) room is roomy = by_test (fits_in book id offset n) refl
  where
    by_test : (takes : Bool) → fits_in book id offset n ≡ takes → IfSome (if takes then Some n else None) (λ count. count ≤ room)
    by_test true takes =
        let most = fits_most (region_of book id) offset n (found_most book.next (λ r. r.id == id) book.regions is.each) takes in omega arith
    by_test false takes = tt
wants_most book _ room is roomy = tt
