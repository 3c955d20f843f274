-- The numbers of declared pages, where a tail moves, a row is removed and a row is added.
use Rattle.std.proofs.Common.{◌≡◌, ℕ, zero, suc, ◌+◌, ◌*◌, ◌/◌, ◌<◌, Bool, true, false, List, [], ◌∷◌, ◌++◌, length, set, take, arith, refl, sym, ap, ◌∙◌, subst, slice_index_or}
use Rattle.std.specs.Prelude.{All, Some, cond, filter, if◌then◌else◌, slice_get}
use Rattle.std.specs.List.{sum_by}
use Rattle.std.proofs.lemmas.List.Sums.{sum_by-cons}
use Rattle.std.proofs.lemmas.Option.{none-some, same_Some}
use Rattle.region_book.specs.declared.row.Row.{Row}
use Rattle.region_book.specs.RegionRows.{AreNumbered, moved, pages_of_row}

pub pages_pooled : (row : Row) → row.pooled ≡ true → pages_of_row row ≡ 0
pages_pooled row pooled = ap (λ b. if b then 0 else row.size / 4096) pooled

pub pages_declared : (row : Row) (pages : ℕ) → row.pooled ≡ false → row.size ≡ 4096 * pages → pages_of_row row ≡ pages
pages_declared row pages declared whole =
    let count : row.size / 4096 ≡ pages = omega (arith, whole) in
    ap (λ b. if b then 0 else row.size / 4096) declared ∙ count

-- the numbers from one on, row by row, and the one behind them
abbrev NumberedFrom : ℕ → List Row → ℕ → Type 0
NumberedFrom from [] to = from ≡ to
NumberedFrom from (row ∷ rows) to =
    (row.slot ≡ (if row.pooled then 0 else from)) × NumberedFrom (from + pages_of_row row) rows to

-- a row has the number of its first page, counted from one on
abbrev EachFrom : ℕ → List Row → Type 0
EachFrom from rows = (i : ℕ) (row : Row) → slice_get rows i ≡ Some row
    → row.slot ≡ (if row.pooled then 0 else from + sum_by pages_of_row (take i rows))

steps_from : (from to : ℕ) (rows : List Row) → EachFrom from rows → from + sum_by pages_of_row rows ≡ to
    → NumberedFrom from rows to
steps_from from to [] each all = omega (arith, all)
steps_from from to (row ∷ rows) each all =
    let first : from + sum_by pages_of_row (take 0 (row ∷ rows)) ≡ from = omega arith in
    let rest : from + pages_of_row row + sum_by pages_of_row rows ≡ to = omega (arith, all, sum_by-cons pages_of_row row rows) in (
      each 0 row refl ∙ ap (λ n. if row.pooled then 0 else n) first,
      steps_from (from + pages_of_row row) to rows (λ i later at.
          let more : from + sum_by pages_of_row (row ∷ take i rows) ≡ from + pages_of_row row + sum_by pages_of_row (take i rows) =
          omega (arith, sum_by-cons pages_of_row row (take i rows)) in
          each (suc i) later at ∙ ap (λ n. if later.pooled then 0 else n) more) rest,
    )

each_by_steps : (from to : ℕ) (rows : List Row) → NumberedFrom from rows to → EachFrom from rows
each_by_steps from to [] steps i row at = absurd (none-some row at)
each_by_steps from to (first ∷ rows) steps zero row at =
    let none : from ≡ from + sum_by pages_of_row [] = omega arith in
    subst (λ (r : Row). r.slot ≡ (if r.pooled then 0 else from + sum_by pages_of_row [])) (same_Some first row at)
    (steps.0 ∙ ap (λ n. if first.pooled then 0 else n) none)
each_by_steps from to (first ∷ rows) steps (suc i) row at =
    let more : from + pages_of_row first + sum_by pages_of_row (take i rows) ≡ from + sum_by pages_of_row (first ∷ take i rows) =
    omega (arith, sum_by-cons pages_of_row first (take i rows)) in
    each_by_steps (from + pages_of_row first) to rows steps.1 i row at ∙ ap (λ n. if row.pooled then 0 else n) more

all_by_steps : (from to : ℕ) (rows : List Row) → NumberedFrom from rows to → from + sum_by pages_of_row rows ≡ to
all_by_steps from to [] steps = omega (arith, steps)
all_by_steps from to (row ∷ rows) steps =
    omega (arith, all_by_steps (from + pages_of_row row) to rows steps.1, sum_by-cons pages_of_row row rows)

steps_of : (rows : List Row) (declared : ℕ) → AreNumbered rows declared → NumberedFrom 0 rows declared
steps_of rows declared is =
    steps_from 0 declared rows (λ i row at.
    let from : sum_by pages_of_row (take i rows) ≡ 0 + sum_by pages_of_row (take i rows) = omega arith in
    is.each i row at ∙ ap (λ n. if row.pooled then 0 else n) from) (omega (arith, is.pages))

by_steps : (rows : List Row) (declared : ℕ) → NumberedFrom 0 rows declared → AreNumbered rows declared
by_steps rows declared steps = record {
  each = λ i row at.
      let from : 0 + sum_by pages_of_row (take i rows) ≡ sum_by pages_of_row (take i rows) = omega arith in
      each_by_steps 0 declared rows steps i row at ∙ ap (λ n. if row.pooled then 0 else n) from;
  pages = omega (arith, all_by_steps 0 declared rows steps);
}

-- no row
pub none_numbered : AreNumbered [] 0
none_numbered = by_steps [] 0 refl

-- a tail moves
steps_moved : (from to : ℕ) (rows : List Row) (i tail : ℕ) (row : Row) → i < length rows
    → ((d : Row) → slice_index_or rows i d ≡ row) → NumberedFrom from rows to → NumberedFrom from (set rows i (moved row tail)) to
steps_moved from to [] i tail row within is steps = absurd (omega (arith, within))
steps_moved from to (first ∷ rows) zero tail row within is steps =
    subst (λ (r : Row). (r.slot ≡ (if r.pooled then 0 else from)) × NumberedFrom (from + pages_of_row r) rows to) (is first) steps
steps_moved from to (first ∷ rows) (suc i) tail row within is steps =
    (steps.0, steps_moved (from + pages_of_row first) to rows i tail row (omega (arith, within)) is steps.1)

pub moved_numbered : (rows : List Row) (declared i tail : ℕ) (row : Row) → i < length rows
    → ((d : Row) → slice_index_or rows i d ≡ row) → AreNumbered rows declared → AreNumbered (set rows i (moved row tail)) declared
moved_numbered rows declared i tail row within is numbers =
    by_steps (set rows i (moved row tail)) declared
    (steps_moved 0 declared rows i tail row within is (steps_of rows declared numbers))

-- rows of the pool are removed
steps_left : (p : Row → Bool) (from to : ℕ) (rows : List Row) → All (λ row. p row ≡ false → row.pooled ≡ true) rows
    → NumberedFrom from rows to → NumberedFrom from (filter p rows) to
steps_left p from to [] gone steps = steps
steps_left p from to (row ∷ rows) gone steps =
    go (p row) (gone 0 row (omega arith))
    (steps_left p (from + pages_of_row row) to rows (λ k d below. gone (suc k) d (omega (arith, below))) steps.1)
  where
    go : (stays : Bool) → (stays ≡ false → row.pooled ≡ true) → NumberedFrom (from + pages_of_row row) (filter p rows) to
        → NumberedFrom from (cond stays (row ∷ filter p rows) (filter p rows)) to
    go true out later = (steps.0, later)
    go false out later =
        let none : from + pages_of_row row ≡ from = omega (arith, pages_pooled row (out refl)) in
        subst (λ n. NumberedFrom n (filter p rows) to) none later

pub left_numbered : (p : Row → Bool) (rows : List Row) (declared : ℕ) → All (λ row. p row ≡ false → row.pooled ≡ true) rows
    → AreNumbered rows declared → AreNumbered (filter p rows) declared
left_numbered p rows declared gone numbers =
    by_steps (filter p rows) declared (steps_left p 0 declared rows gone (steps_of rows declared numbers))

-- a row is added
steps_added : (from to pages : ℕ) (rows : List Row) (row : Row) → row.slot ≡ (if row.pooled then 0 else to)
    → pages_of_row row ≡ pages → NumberedFrom from rows to → NumberedFrom from (rows ++ row ∷ []) (to + pages)
steps_added from to pages [] row slot count steps =
    (slot ∙ ap (λ n. if row.pooled then 0 else n) (sym steps), omega (arith, steps, count))
steps_added from to pages (first ∷ rows) row slot count steps =
    (steps.0, steps_added (from + pages_of_row first) to pages rows row slot count steps.1)

pub added_numbered : (rows : List Row) (declared pages : ℕ) (row : Row) → row.slot ≡ (if row.pooled then 0 else declared)
    → pages_of_row row ≡ pages → AreNumbered rows declared → AreNumbered (rows ++ row ∷ []) (declared + pages)
added_numbered rows declared pages row slot count numbers =
    by_steps (rows ++ row ∷ []) (declared + pages)
    (steps_added 0 declared pages rows row slot count (steps_of rows declared numbers))
