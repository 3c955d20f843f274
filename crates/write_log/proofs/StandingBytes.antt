-- A log whose bytes are written out: it is read in memory as in the list of bytes.
use Rattle.std.proofs.Common.{◌≡◌, ℕ, zero, suc, ◌+◌, ◌<◌, ◌≤◌, List, ◌∷◌, length, take, drop, arith, refl, sym, ap, ◌∙◌}
use Rattle.phys_mem.specs.Memory.{byte_at, number_at}
use Rattle.write_log.specs.LogBytes.{end_from, end_of, record_at, records_from}
use Rattle.write_log.proofs.LogWalk.{end_least}
use Rattle.write_log.proofs.RecordBytes.{run_byte, run_is, run_length}

-- these bytes stand where the log begins, and behind them 0 to its end
abbrev pub StandIn : List ℕ → List ℕ → Type 0
StandIn bytes m = (k : ℕ) → k < 65536 → byte_at m (0x1A000 + k) ≡ byte_at bytes k

module _ (bytes m : List ℕ) (size : 0x2A000 ≤ length m) (stand : StandIn bytes m) where
  pub number_here : (n p : ℕ) → p + n ≤ 65536 → number_at m n (0x1A000 + p) ≡ number_at bytes n p
  unfolding number_at
  number_here zero p fits = refl
  number_here (suc n) p fits =
      let later : number_at m n (0x1A000 + (p + 1)) ≡ number_at bytes n (p + 1) = number_here n (p + 1) (omega (arith, fits)) in
      let place : 0x1A000 + p + 1 ≡ 0x1A000 + (p + 1) = omega arith in
      omega (arith, stand p (omega (arith, fits)), ap (number_at m n) place, later)

  end_of_here : (p : ℕ) → end_of bytes p ≤ 65536 → end_of m (0x1A000 + p) ≡ 0x1A000 + end_of bytes p
  end_of_here p fits =
      let place : 0x1A000 + p + 20 ≡ 0x1A000 + (p + 20) = omega arith in
      omega (arith, ap (number_at m 4) place, number_here 4 (p + 20) (omega (arith, fits)))

  pub end_here : (p n : ℕ) → end_from bytes p n ≤ 65536 → end_from m (0x1A000 + p) n ≡ 0x1A000 + end_from bytes p n
  unfolding end_from
  end_here p zero fits = refl
  end_here p (suc n) fits =
      ap (λ q. end_from m q n) (end_of_here p (omega (arith, fits, end_least bytes (end_of bytes p) n)))
      ∙ end_here (end_of bytes p) n fits

  record_here : (p : ℕ) → end_of bytes p ≤ 65536 → end_of bytes p ≤ length bytes → record_at m (0x1A000 + p) ≡ record_at bytes p
  unfolding record_at
  record_here p fits within =
      let at_8 : 0x1A000 + p + 8 ≡ 0x1A000 + (p + 8) = omega arith in
      let at_16 : 0x1A000 + p + 16 ≡ 0x1A000 + (p + 16) = omega arith in
      let at_20 : 0x1A000 + p + 20 ≡ 0x1A000 + (p + 20) = omega arith in
      let region : number_at m 8 (0x1A000 + p + 8) ≡ number_at bytes 8 (p + 8) =
      ap (number_at m 8) at_8 ∙ number_here 8 (p + 8) (omega (arith, fits)) in
      let offset : number_at m 4 (0x1A000 + p + 16) ≡ number_at bytes 4 (p + 16) =
      ap (number_at m 4) at_16 ∙ number_here 4 (p + 16) (omega (arith, fits)) in
      let count : number_at m 4 (0x1A000 + p + 20) ≡ number_at bytes 4 (p + 20) =
      ap (number_at m 4) at_20 ∙ number_here 4 (p + 20) (omega (arith, fits)) in
      let long : length (take (number_at bytes 4 (p + 20)) (drop (p + 24) bytes)) ≡ number_at bytes 4 (p + 20) =
      run_length bytes (p + 24) (number_at bytes 4 (p + 20)) (omega (arith, within)) in
      let same : (k : ℕ) → k < length (take (number_at bytes 4 (p + 20)) (drop (p + 24) bytes))
      → byte_at m (0x1A000 + p + 24 + k) ≡ byte_at (take (number_at bytes 4 (p + 20)) (drop (p + 24) bytes)) k =
      λ k small.
      let place : 0x1A000 + p + 24 + k ≡ 0x1A000 + (p + 24 + k) = omega arith in
      ap (byte_at m) place ∙ stand (p + 24 + k) (omega (arith, small, long, fits))
      ∙ sym (run_byte bytes (p + 24) (number_at bytes 4 (p + 20)) k (omega (arith, small, long))) in
      let own : take (number_at m 4 (0x1A000 + p + 20)) (drop (0x1A000 + p + 24) m) ≡ take (number_at bytes 4 (p + 20)) (drop (p + 24) bytes) =
      ap (λ n. take n (drop (0x1A000 + p + 24) m)) (count ∙ sym long)
      ∙ run_is m (0x1A000 + p + 24) (take (number_at bytes 4 (p + 20)) (drop (p + 24) bytes)) (omega (arith, size, long, fits)) same in
      λ j. record { region = region j; offset = offset j; bytes = own j }

  pub records_here : (p n : ℕ) → end_from bytes p n ≤ 65536 → end_from bytes p n ≤ length bytes
      → records_from m (0x1A000 + p) n ≡ records_from bytes p n
  unfolding records_from end_from
  records_here p zero fits within = refl
  records_here p (suc n) fits within =
      let least : end_of bytes p ≤ end_from bytes (end_of bytes p) n = end_least bytes (end_of bytes p) n in
      ap (λ it. it ∷ records_from m (end_of m (0x1A000 + p)) n) (record_here p (omega (arith, least, fits)) (omega (arith, least, within)))
      ∙ ap (λ q. record_at bytes p ∷ records_from m q n) (end_of_here p (omega (arith, least, fits)))
      ∙ ap (λ later. record_at bytes p ∷ later) (records_here (end_of bytes p) n fits within)
