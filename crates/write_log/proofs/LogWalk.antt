-- The records in memory from a place on: where they end, what the one of a number is, and what they take.
use Rattle.std.proofs.Common.{◌≡◌, ℕ, zero, suc, ◌+◌, ◌<◌, ◌≤◌, List, [], ◌∷◌, ◌++◌, length, take, drop, get_or, Some, arith, refl, sym, ap, ◌∙◌}
use Rattle.std.specs.List.{slice_get}
use Rattle.std.proofs.lemmas.Option.{slice_get-get_or}
use Rattle.phys_mem.specs.Memory.{byte_at, number_at}
use Rattle.write_log.specs.LogBytes.{end_from, end_of, record_at, records_from}
use Rattle.write_log.specs.LogRecords.{LogRecord, log_size, noted}
use Rattle.write_log.specs.declared.log.Noted.{Noted}
use Rattle.write_log.proofs.RecordBytes.{number_same, run_byte, run_length, run_same}

-- records end no earlier than they begin
pub end_least : (m : List ℕ) (p n : ℕ) → p ≤ end_from m p n
unfolding end_from
end_least m p zero = omega arith
end_least m p (suc n) = omega (arith, end_least m (end_of m p) n)

-- one more record ends where the last one does
pub end_more : (m : List ℕ) (p n : ℕ) → end_from m p (suc n) ≡ end_of m (end_from m p n)
unfolding end_from
end_more m p zero = refl
end_more m p (suc n) = end_more m (end_of m p) n

-- a record ends within all
pub end_within : (m : List ℕ) (p i n : ℕ) → i < n → end_of m (end_from m p i) ≤ end_from m p n
unfolding end_from
end_within m p i zero small = absurd (omega (arith, small))
end_within m p zero (suc n) small = end_least m (end_of m p) n
end_within m p (suc i) (suc n) small = end_within m (end_of m p) i n (omega (arith, small))

pub count_records : (m : List ℕ) (p n : ℕ) → length (records_from m p n) ≡ n
unfolding records_from
count_records m p zero = refl
count_records m p (suc n) = ap suc (count_records m (end_of m p) n)

-- the record of a number
record_read : (m : List ℕ) (p i n : ℕ) (d : LogRecord) → i < n → get_or (records_from m p n) i d ≡ record_at m (end_from m p i)
unfolding records_from end_from
record_read m p i zero d small = absurd (omega (arith, small))
record_read m p zero (suc n) d small = refl
record_read m p (suc i) (suc n) d small = record_read m (end_of m p) i n d (omega (arith, small))

pub record_of : (m : List ℕ) (p i n : ℕ) → i < n → slice_get (records_from m p n) i ≡ Some (record_at m (end_from m p i))
record_of m p i n small =
    slice_get-get_or (records_from m p n) i (record_at m p) (omega (arith, small, count_records m p n))
    ∙ ap Some (record_read m p i n (record_at m p) small)

-- one record more stands behind the others
pub record_more : (m : List ℕ) (p n : ℕ) → records_from m p (suc n) ≡ records_from m p n ++ record_at m (end_from m p n) ∷ []
unfolding records_from end_from
record_more m p zero = refl
record_more m p (suc n) = ap (λ records. record_at m p ∷ records) (record_more m (end_of m p) n)

-- the bytes of a record that ends within memory
pub record_length : (m : List ℕ) (p : ℕ) → end_of m p ≤ length m → length (record_at m p).bytes ≡ number_at m 4 (p + 20)
unfolding record_at
record_length m p fits = run_length m (p + 24) (number_at m 4 (p + 20)) (omega (arith, fits))

pub record_byte : (m : List ℕ) (p k : ℕ) → k < number_at m 4 (p + 20) → byte_at m (p + 24 + k) ≡ byte_at (record_at m p).bytes k
unfolding record_at
record_byte m p k small = sym (run_byte m (p + 24) (number_at m 4 (p + 20)) k small)

-- what is told of a record, by its numbers
pub noted_is : (m : List ℕ) (p : ℕ) (it : Noted) → it.region ≡ number_at m 8 (p + 8) → it.offset ≡ number_at m 4 (p + 16)
    → it.length ≡ length (record_at m p).bytes → it ≡ noted (record_at m p)
unfolding record_at
noted_is m p it region offset count = λ j. record { region = region j; offset = offset j; length = count j }

-- what the records take
pub records_size : (m : List ℕ) (p n : ℕ) → end_from m p n ≤ length m → p + log_size (records_from m p n) ≡ end_from m p n
unfolding records_from end_from log_size
records_size m p zero fits = omega arith
records_size m p (suc n) fits =
    let least : end_of m p ≤ end_from m (end_of m p) n = end_least m (end_of m p) n in
    let here : length (record_at m p).bytes ≡ number_at m 4 (p + 20) = record_length m p (omega (arith, least, fits)) in
    let later : end_of m p + log_size (records_from m (end_of m p) n) ≡ end_from m (end_of m p) n = records_size m (end_of m p) n fits in
    omega (arith, here, later)

-- a record stays where its bytes do
end_same : (l m : List ℕ) (p : ℕ) → ((q : ℕ) → p ≤ q → q < end_of m p → byte_at l q ≡ byte_at m q) → end_of l p ≡ end_of m p
end_same l m p agree =
    ap (λ n. p + 24 + n) (number_same l m 4 (p + 20) (λ q low high. agree q (omega (arith, low)) (omega (arith, high))))

record_same : (l m : List ℕ) (p : ℕ) → length l ≡ length m → ((q : ℕ) → p ≤ q → q < end_of m p → byte_at l q ≡ byte_at m q)
    → record_at l p ≡ record_at m p
unfolding record_at
record_same l m p size agree =
    let region : number_at l 8 (p + 8) ≡ number_at m 8 (p + 8) =
    number_same l m 8 (p + 8) (λ q low high. agree q (omega (arith, low)) (omega (arith, high))) in
    let offset : number_at l 4 (p + 16) ≡ number_at m 4 (p + 16) =
    number_same l m 4 (p + 16) (λ q low high. agree q (omega (arith, low)) (omega (arith, high))) in
    let count : number_at l 4 (p + 20) ≡ number_at m 4 (p + 20) =
    number_same l m 4 (p + 20) (λ q low high. agree q (omega (arith, low)) (omega (arith, high))) in
    let bytes : take (number_at l 4 (p + 20)) (drop (p + 24) l) ≡ take (number_at m 4 (p + 20)) (drop (p + 24) m) =
    ap (λ n. take n (drop (p + 24) l)) count
    ∙ run_same l m (p + 24) (number_at m 4 (p + 20)) size (λ q low high. agree q (omega (arith, low)) (omega (arith, high))) in
    λ j. record { region = region j; offset = offset j; bytes = bytes j }

-- records stay where their bytes do
pub ends_same : (l m : List ℕ) (p n : ℕ) → ((q : ℕ) → p ≤ q → q < end_from m p n → byte_at l q ≡ byte_at m q)
    → end_from l p n ≡ end_from m p n
unfolding end_from
ends_same l m p zero agree = refl
ends_same l m p (suc n) agree =
    let least : end_of m p ≤ end_from m (end_of m p) n = end_least m (end_of m p) n in
    ap (λ q. end_from l q n) (end_same l m p (λ q low high. agree q low (omega (arith, high, least))))
    ∙ ends_same l m (end_of m p) n (λ q low high. agree q (omega (arith, low)) high)

pub records_same : (l m : List ℕ) (p n : ℕ) → length l ≡ length m → ((q : ℕ) → p ≤ q → q < end_from m p n → byte_at l q ≡ byte_at m q)
    → records_from l p n ≡ records_from m p n
unfolding records_from end_from
records_same l m p zero size agree = refl
records_same l m p (suc n) size agree =
    let least : end_of m p ≤ end_from m (end_of m p) n = end_least m (end_of m p) n in
    let here : (q : ℕ) → p ≤ q → q < end_of m p → byte_at l q ≡ byte_at m q =
    λ q low high. agree q low (omega (arith, high, least)) in
    ap (λ it. it ∷ records_from l (end_of l p) n) (record_same l m p size here)
    ∙ ap (λ q. record_at m p ∷ records_from l q n) (end_same l m p here)
    ∙ ap (λ records. record_at m p ∷ records)
    (records_same l m (end_of m p) n size (λ q low high. agree q (omega (arith, low)) high))
