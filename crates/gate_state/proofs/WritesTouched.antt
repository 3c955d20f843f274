-- Where the bytes of a write lie that fits in a region.
use Rattle.std.proofs.Common.{◌≡◌, ℕ, suc, ◌+◌, ◌≤◌, ◌==◌, Bool, true, false, List, [], ◌∷◌, Option, Some, None, All, IfSome, cond, find, nat_le, arith, sym, ap, ◌∙◌}
use Rattle.std.proofs.lemmas.Bool.{and_parts, false≢true, leb-true}
use Rattle.region_book.specs.RegionBytes.{RegionIndex, book_in}
use Rattle.region_book.specs.RegionCalls.{fits_in, fits_region}
use Rattle.region_book.specs.RegionRecords.{IsRegion, RegionRecord, region_of}
use Rattle.nk_body.specs.NestedRecord.{HoldsBooks, OwnState}

-- what holds of each element holds of the one that is found
found_holds : {X : Type 0} (p : X → Bool) (P : X → Type 0) (xs : List X) → All P xs → IfSome (find p xs) P
found_holds p P [] all = tt
found_holds p P (x ∷ xs) all =
    go (p x) (all 0 x (omega arith)) (found_holds p P xs (λ k d below. all (suc k) d (omega arith)))
  where
    go : (here : Bool) → P x → IfSome (find p xs) P → IfSome (cond here (Some x) (find p xs)) P
    go true one later = one
    go false one later = later

-- what fits in a region of a book ends with the greatest region
ends_below : (r : Option RegionRecord) (next offset count : ℕ) → IfSome r (IsRegion next)
    → fits_region r offset count ≡ true → offset + count ≤ 65536
ends_below None next offset count sound fits = absurd (false≢true fits)
ends_below (Some x) next offset count sound fits =
    omega (
      arith,
      leb-true (offset + count) x.size (and_parts (nat_le 1 count) (nat_le (offset + count) x.size) fits).1,
      sound.size.1,
    )

pub write_ends : (own : OwnState) (m : List ℕ) (index : RegionIndex) (region offset count : ℕ) (fits : Bool)
    → HoldsBooks own m → index ≡ own.regions → fits ≡ fits_in (book_in index m) region offset count → fits ≡ true
    → offset + count ≤ 65536
write_ends own m index region offset count fits held is told so =
    let book = book_in own.regions m in
    ends_below (region_of book region) book.next offset count
    (found_holds (λ r. r.id == region) (IsRegion book.next) book.regions held.books.kept.book.each)
    (sym (told ∙ ap (λ (x : RegionIndex). fits_in (book_in x m) region offset count) is) ∙ so)
