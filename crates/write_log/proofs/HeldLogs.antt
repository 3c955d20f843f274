-- What follows from a log that memory holds.
use Rattle.std.proofs.Common.{◌≡◌, ◌⊎◌, ℕ, ◌+◌, ◌/◌, ◌<◌, ◌≤◌, Bool, false, List, length, arith, refl, ap, ◌∙◌, inl, inr}
use Rattle.std.specs.Prelude.{nat_le, nat_lt}
use Rattle.std.proofs.lemmas.Bool.{and_cases, leb-false, ltb-false}
use Rattle.phys_mem.specs.MaskedMemory.{is_book_frame, masked, seen}
use Rattle.phys_mem.specs.Memory.{byte_at, number_at}
use Rattle.write_log.specs.LogBytes.{DiffersInLog, HoldsLog, LogCounts, end_from, end_of, log_in, record_place}
use Rattle.write_log.specs.LogRecords.{log_size}
use Rattle.write_log.proofs.RecordBytes.{number_same}
use Rattle.write_log.proofs.LogWalk.{count_records, end_least, end_within, ends_same, records_same, records_size}

module _ (counts : LogCounts) (m : List ℕ) (held : HoldsLog counts m) where
  -- a record ends within the log
  pub place_least : (i : ℕ) → 0x1A000 ≤ record_place m i
  place_least i = end_least m 0x1A000 i

  pub ends_before : (i : ℕ) → i < counts.records → end_of m (record_place m i) ≤ 0x1A000 + counts.used
  ends_before i small = omega (arith, end_within m 0x1A000 i counts.records small, held.end)

  pub counted : length (log_in counts m) ≡ counts.records
  counted = count_records m 0x1A000 counts.records

  pub used_by : log_size (log_in counts m) ≡ counts.used
  used_by =
      let all : 0x1A000 + log_size (log_in counts m) ≡ record_place m counts.records =
      records_size m 0x1A000 counts.records (omega (arith, held.end, held.used, held.size)) in
      omega (arith, all, held.end)

  module _ (n : List ℕ) (size : length n ≡ length m) (same : (p : ℕ) → 0x1A000 ≤ p → p < 0x1A000 + counts.used → byte_at n p ≡ byte_at m p) where
    agree_to : (i : ℕ) → record_place m i ≤ 0x1A000 + counts.used → (q : ℕ) → 0x1A000 ≤ q → q < record_place m i → byte_at n q ≡ byte_at m q
    agree_to i within q low high = same q low (omega (arith, high, within))

    pub place_stays : (i : ℕ) → record_place m i ≤ 0x1A000 + counts.used → record_place n i ≡ record_place m i
    place_stays i within = ends_same n m 0x1A000 i (agree_to i within)

    pub log_stays : log_in counts n ≡ log_in counts m
    log_stays = records_same n m 0x1A000 counts.records size (agree_to counts.records (omega (arith, held.end)))

    pub end_stays : record_place n counts.records ≡ 0x1A000 + counts.used
    end_stays = place_stays counts.records (omega (arith, held.end)) ∙ held.end

    pub number_stays : (i : ℕ) → i < counts.records → number_at n 8 (record_place n i) ≡ i
    number_stays i small =
        let within : end_of m (record_place m i) ≤ 0x1A000 + counts.used = ends_before i small in
        let least : 0x1A000 ≤ record_place m i = place_least i in
        ap (number_at n 8) (place_stays i (omega (arith, within)))
        ∙ number_same n m 8 (record_place m i) (λ q low high. same q (omega (arith, low, least)) (omega (arith, high, within)))
        ∙ held.numbers i small

-- a memory with the same bytes where the log stands
module _ (counts : LogCounts) (m n : List ℕ) (held : HoldsLog counts m) (size : length n ≡ length m)
    (same : (p : ℕ) → 0x1A000 ≤ p → p < 0x2A000 → byte_at n p ≡ byte_at m p) where
  same_used : (p : ℕ) → 0x1A000 ≤ p → p < 0x1A000 + counts.used → byte_at n p ≡ byte_at m p
  same_used p low high = same p low (omega (arith, high, held.used))

  pub log_agrees : log_in counts n ≡ log_in counts m
  log_agrees = log_stays counts m held n size same_used

  pub log_held : HoldsLog counts n
  log_held = record {
    size = omega (arith, size, held.size);
    used = held.used;
    end = end_stays counts m held n size same_used;
    numbers = number_stays counts m held n size same_used;
    behind = λ p low high. same p (omega (arith, low)) high ∙ held.behind p low high;
  }

-- a place outside the books' frames lies outside the log
outside_log : (frames p : ℕ) → is_book_frame frames (p / 4096) ≡ false → (p < 0x1A000) ⊎ (0x2A000 ≤ p)
unfolding is_book_frame
outside_log frames p outside =
    elim (and_cases (nat_le 26 (p / 4096)) (nat_lt (p / 4096) (64 + (frames + 255) / 256)) outside) [
      | inl low ↦ inl (omega (arith, leb-false 26 (p / 4096) low))
      | inr high ↦ inr (omega (arith, ltb-false (p / 4096) (64 + (frames + 255) / 256) high))
    ]

-- a change of the log alone doesn't show
pub change_unseen : ((hidden : ℕ → Bool) (m n : List ℕ) → length m ≡ length n
    → ((p : ℕ) → hidden (p / 4096) ≡ false → byte_at m p ≡ byte_at n p) → masked hidden m ≡ masked hidden n)
    → (m n : List ℕ) → DiffersInLog m n → seen n ≡ seen m
change_unseen alike m n differs =
    ap (λ k. masked (is_book_frame (k / 4096)) n) differs.size
    ∙ alike (is_book_frame (length m / 4096)) n m differs.size
    (λ p outside. differs.elsewhere p (outside_log (length m / 4096) p outside))

-- where there is 0 alone, memory holds the empty log
pub empty_held : (m : List ℕ) → 0x2A000 ≤ length m → ((p : ℕ) → 0x1A000 ≤ p → p < 0x2A000 → byte_at m p ≡ 0)
    → HoldsLog (record { records = 0; used = 0 }) m
unfolding end_from
empty_held m size zeros = record {
  size = size;
  used = omega arith;
  end = refl;
  numbers = λ i small. absurd (omega (arith, small));
  behind = zeros;
}
