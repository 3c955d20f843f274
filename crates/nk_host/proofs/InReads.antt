-- What a reader gave in several reads.
use Rattle.std.proofs.Common.{◌≡◌, ℕ, ◌+◌, ◌<◌, ◌≤◌, Option, None, Some, Result, Ok, Err, IfOk, IfSome, OnOk, List, [], ◌++◌, length, take, refl, ap, sym, ◌∙◌, arith, length-append, length-take-le, take-take}
use Rattle.std.proofs.Math.Logic.{∥∥₁_map}
use Rattle.std.proofs.Math.Seq.{take-append-add}
use Rattle.std.proofs.lemmas.Slice.{take-put_mid}
use Rattle.std.proofs.KnownBytes.{Consumes-nil, Consumes-trans}
use Rattle.std.specs.Option.{SomeIff}
use Rattle.std.specs.Io.KnownBytes.{Consumes}
use Rattle.std.specs.Io.Seek.{MovesTo}
use borrow.Rule.Slice.PartMut.{put_mid}
use Rattle.nk_host.specs.Streams.{GivesAtMost, GivesMore, StandsAt}

-- some bytes, and then at most n more, are at most m
pub given_more : (before now after : Option (List ℕ)) (given : List ℕ) (n m : ℕ)
    → Consumes before now given → GivesAtMost now after n → length given + n ≤ m → GivesAtMost before after m
given_more before now after given n m first next fits =
    let (more, short, consumed) = next in
    (given ++ more, omega (arith, length-append given more, short, fits), Consumes-trans before now after given more first consumed)

-- a part behind some elements was written, and its first n count
taken_behind : (a k n : ℕ) (xs ys : List ℕ) → a ≤ length xs → n ≤ length ys → take (a + n) (put_mid a k xs ys) ≡ take a xs ++ take n ys
taken_behind a k n xs ys within few =
    sym (take-take (a + n) (a + length ys) (put_mid a k xs ys) (omega (arith, few)))
    ∙ ap (take (a + n)) (take-put_mid a k xs ys (a + length ys) refl within)
    ∙ ap (λ m. take (m + n) (take a xs ++ ys)) (sym (length-take-le a xs within))
    ∙ take-append-add (take a xs) ys n

-- a read of at least one byte, into the part of a block behind some bytes
pub read_behind : {E : Type 0} (r : Result ℕ E) (before after : Option (List ℕ)) (a k : ℕ) (xs ys : List ℕ) → a ≤ length xs
    → IfOk r (λ n. 0 < n) → IfOk r (λ n. n ≤ length ys) → IfOk r (λ n. Consumes before after (take n ys))
    → IfOk r (λ n. GivesMore before after (take a xs) (take (a + n) (put_mid a k xs ys)) n)
read_behind (Err _) before after a k xs ys within some few given = tt
read_behind (Ok n) before after a k xs ys within some few given = record {
  given = take n ys;
  count = length-take-le n ys few;
  behind = taken_behind a k n xs ys within few;
  consumed = given;
  end = λ none. absurd (omega (arith, some, none));
}

-- a reader that was moved to a place, and has given nothing since, stands there
pub stands_there : {F X E : Type 0} (position : F → Option ℕ) (remaining : F → Option (List ℕ)) (from moved : F) (at : ℕ) (r : Result X E)
    → MovesTo (position from) (position moved) at r → OnOk r (StandsAt position remaining moved at)
stands_there position remaining from moved at (Err _) moves = tt
stands_there position remaining from moved at (Ok _) moves = ∣ record {
  from = from;
  moved = moved;
  start = at;
  there = moves;
  between = [];
  given = Consumes-nil (remaining moved);
  behind = omega arith;
} ∣₁

-- a reader that stood at a place, and then gave some bytes, stands behind them
pub stands_behind : {F : Type 0} (position : F → Option ℕ) (remaining : F → Option (List ℕ)) (here after : F) (at : ℕ) (bytes : List ℕ) (place : Option ℕ) (P : Type 0)
    → StandsAt position remaining here at → Consumes (remaining here) (remaining after) bytes → SomeIff place P (at + length bytes)
    → IfSome place (StandsAt position remaining after)
stands_behind position remaining here after at bytes None P there given behind = tt
stands_behind position remaining here after at bytes (Some p) P there given behind = ∥∥₁_map there (λ came. record {
  from = came.from;
  moved = came.moved;
  start = came.start;
  there = came.there;
  between = came.between ++ bytes;
  given = Consumes-trans _ _ _ _ _ came.given given;
  behind = omega (arith, length-append came.between bytes, came.behind, behind.1);
})
