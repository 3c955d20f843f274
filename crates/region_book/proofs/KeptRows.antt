-- What rows and bits keep where a tail moves, a row is removed and a row is added.
use Rattle.std.proofs.Common.{◌≡◌, ℕ, ◌+◌, ◌-◌, ◌*◌, ◌<◌, ◌≤◌, Bool, true, false, ◌&&◌, nat_lt, List, [], ◌∷◌, ◌++◌, length, set, arith, sym, ap, ◌∙◌, subst, inl, inr, slice_index_or}
use Rattle.std.specs.Prelude.{All, filter, if◌then◌else◌}
use Rattle.std.specs.List.{list_any}
use Rattle.std.proofs.lemmas.Bool.{and_cases, cases_Bool, ltb-false}
use Rattle.std.proofs.lemmas.List.{length-set, length_push}
use Rattle.std.proofs.lemmas.List.Elements.{All-filter, All-push, All-set, All-weaker}
use Rattle.std.proofs.lemmas.List.Kept.{AllPairs-filter}
use Rattle.std.proofs.lemmas.List.Quantifiers.{all_pairs_push}
use Rattle.std.proofs.lemmas.List.Sums.{count_by-le-length, length-filter}
use Rattle.region_book.specs.declared.row.Row.{Row}
use Rattle.nk_bits.specs.KernelLayout.{pool_start}
use Rattle.region_book.specs.RegionRows.{AreApart, IsHeld, AreRowsKept, first_bit, moved, pages_of_row, row_meets}
use Rattle.region_book.proofs.Found.{none_any}
use Rattle.region_book.proofs.ListEdits.{pairs_set}
use Rattle.region_book.proofs.NumberedRows.{added_numbered, left_numbered, moved_numbered}

-- more slots hold it too
pub held_more : (slots more : ℕ) (row : Row) → slots ≤ more → IsHeld slots row → IsHeld more row
held_more slots more row order held = record {
  size = held.size;
  pooled = held.pooled;
  declared = λ e. ((held.declared e).0, omega (arith, (held.declared e).1));
}

module _ (rows : List Row) (bits : List ℕ) (declared : ℕ) (kept : AreRowsKept rows bits declared) where
  pub all_held : All (IsHeld 128) rows
  all_held = All-weaker (IsHeld declared) (IsHeld 128)
      (λ row held. held_more declared 128 row kept.most held) rows kept.held

  pub kept_moved : (after : List ℕ) (i tail : ℕ) (row : Row) → i < length rows →
      ((d : Row) → slice_index_or rows i d ≡ row) → length after ≡ 73728 →
      AreRowsKept (set rows i (moved row tail)) after declared
  unfolding first_bit
  kept_moved after i tail row within is long =
      let held : IsHeld declared row = subst (IsHeld declared) (is row) (kept.held i row within) in
      record {
        count = omega (arith, kept.count, length-set rows i (moved row tail));
        room = long;
        most = kept.most;
        numbers = moved_numbered rows declared i tail row within is kept.numbers;
        held = All-set (IsHeld declared) rows i (moved row tail)
            (record { size = held.size; pooled = held.pooled; declared = held.declared }) kept.held;
        apart = pairs_set AreApart rows i row (moved row tail) within is kept.apart (λ z apart. apart)
            (λ z apart. apart);
      }

  pub kept_removed : (p : Row → Bool) → All (λ row. p row ≡ false → row.pooled ≡ true) rows
      → AreRowsKept (filter p rows) bits declared
  kept_removed p gone = record {
    count = omega (arith, kept.count, length-filter p rows, count_by-le-length p rows);
    room = kept.room;
    most = kept.most;
    numbers = left_numbered p rows declared gone kept.numbers;
    held = All-filter p (IsHeld declared) rows kept.held;
    apart = AllPairs-filter AreApart p rows kept.apart;
  }

-- where a row's bits begin
first_pooled : (row : Row) → row.pooled ≡ true → first_bit row ≡ row.first - pool_start
unfolding first_bit
first_pooled row pooled = ap (λ b. if b then row.first - pool_start else 65536 + 4096 * row.slot) pooled

first_declared : (row : Row) → row.pooled ≡ false → first_bit row ≡ 65536 + 4096 * row.slot
unfolding first_bit
first_declared row declared = ap (λ b. if b then row.first - pool_start else 65536 + 4096 * row.slot) declared

-- a new row: in the pool where no byte is taken, or in the next slots
pub record IsNew (rows : List Row) (slots pages : ℕ) (row : Row) : Type 0 where
  pub size : row.size ≤ 65536
  pub pooled : row.pooled ≡ true →
      (pool_start ≤ row.first) × (row.first + row.size ≤ pool_start + 65536) ×
      (list_any (row_meets row.size (row.first - pool_start)) rows ≡ false)
  pub declared : row.pooled ≡ false → (row.size ≡ 4096 * pages) × (row.slot ≡ slots)

pub new_held : (rows : List Row) (declared pages : ℕ) (row : Row) → IsNew rows declared pages row →
    IsHeld (declared + pages) row
new_held rows declared pages row new = record {
  size = new.size;
  pooled = λ e. ((new.pooled e).0, (new.pooled e).1);
  declared = λ e. let is = new.declared e in (omega (arith, is), omega (arith, is));
}

module _ (declared pages : ℕ) (old row : Row) (held : IsHeld declared old) where
  apart_in_pool : old.pooled ≡ true → row.pooled ≡ true → row_meets row.size (row.first - pool_start) old ≡ false →
      AreApart old row
  apart_in_pool old_pooled pooled free =
      let met : (nat_lt (row.first - pool_start) (old.first - pool_start + old.size) && nat_lt (old.first - pool_start)
      (row.first - pool_start + row.size)) ≡ false =
      sym (ap (λ b. b && (nat_lt (row.first - pool_start) (old.first - pool_start + old.size) && nat_lt
      (old.first - pool_start) (row.first - pool_start + row.size))) old_pooled) ∙ free in
      let one = first_pooled old old_pooled in
      let other = first_pooled row pooled in
      elim (and_cases (nat_lt (row.first - pool_start) (old.first - pool_start + old.size))
      (nat_lt (old.first - pool_start) (row.first - pool_start + row.size)) met) [
        | inl behind ↦ inl (omega (
          arith,
          one,
          other,
          ltb-false (row.first - pool_start) (old.first - pool_start + old.size) behind,
        ))
        | inr before ↦ inr (omega (
          arith,
          one,
          other,
          ltb-false (old.first - pool_start) (row.first - pool_start + row.size) before,
        ))
      ]

  new_apart : (rows : List Row) → IsNew rows declared pages row →
      (row.pooled ≡ true → row_meets row.size (row.first - pool_start) old ≡ false) → AreApart old row
  new_apart rows new free =
      elim (cases_Bool row.pooled) [
        | inl pooled ↦ elim (cases_Bool old.pooled) [
          | inl old_pooled ↦ apart_in_pool old_pooled pooled (free pooled)
          | inr old_declared ↦ inr (omega
              (arith, first_declared old old_declared, first_pooled row pooled, new.pooled pooled))
        ]
        | inr is_declared ↦ elim (cases_Bool old.pooled) [
          | inl old_pooled ↦ inl (omega (
            arith,
            first_pooled old old_pooled,
            first_declared row is_declared,
            held.pooled old_pooled,
          ))
          | inr old_declared ↦ inl (omega (
            arith,
            first_declared old old_declared,
            first_declared row is_declared,
            held.declared old_declared,
            new.declared is_declared,
          ))
        ]
      ]

module _ (rows : List Row) (bits after : List ℕ) (declared pages : ℕ) (row : Row) (kept : AreRowsKept rows bits declared)
    (new : IsNew rows declared pages row) where
  pub each_apart : (k : ℕ) (d : Row) → k < length rows → AreApart (slice_index_or rows k d) row
  each_apart k d below =
      new_apart declared pages (slice_index_or rows k d) row (kept.held k d below) rows new
      (λ pooled. none_any (row_meets row.size (row.first - pool_start)) rows (new.pooled pooled).2 k d below)

  pub kept_added : row.slot ≡ (if row.pooled then 0 else declared) → pages_of_row row ≡ pages → length rows < 256 →
      declared + pages ≤ 128 → length after ≡ 73728 → AreRowsKept (rows ++ row ∷ []) after (declared + pages)
  kept_added number counted few most long = record {
    count = omega (arith, few, length_push rows row);
    room = long;
    most = most;
    numbers = added_numbered rows declared pages row number counted kept.numbers;
    held = All-push (IsHeld (declared + pages)) rows row
        (All-weaker (IsHeld declared) (IsHeld (declared + pages))
        (λ old held. held_more declared (declared + pages) old (omega arith) held) rows kept.held)
        (new_held rows declared pages row new);
    apart = all_pairs_push AreApart rows row kept.apart each_apart;
  }
