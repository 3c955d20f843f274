-- A log to which a record was added: it stands behind the others, which stay.
use Rattle.std.proofs.Common.{◌≡◌, ℕ, ◌+◌, ◌<◌, ◌≤◌, List, [], ◌∷◌, ◌++◌, length, take, drop, arith, add-one, subst, sym, ap, ◌∙◌, inl, inr}
use Rattle.std.proofs.lemmas.Bool.{cases_lt}
use Rattle.phys_mem.specs.Memory.{byte_at, number_at}
use Rattle.write_log.specs.LogBytes.{DiffersInLog, HoldsLog, LogCounts, end_of, log_in, record_at, record_place, records_from}
use Rattle.write_log.specs.LogRecords.{LogRecord, logged, room_of}
use Rattle.write_log.specs.RecordStores.{IsPut}
use Rattle.write_log.proofs.LogWalk.{end_more, record_more}
use Rattle.write_log.proofs.HeldLogs.{end_stays, log_stays, number_stays, used_by}

-- a record that was put is read there
record_put : (at i : ℕ) (it : LogRecord) (m n : List ℕ) → IsPut at i it m n → record_at n at ≡ it
unfolding record_at
record_put at i it m n put =
    let own : take (number_at n 4 (at + 20)) (drop (at + 24) n) ≡ it.bytes = ap (λ k. take k (drop (at + 24) n)) put.count ∙ put.bytes in
    λ j. record { region = put.region j; offset = put.offset j; bytes = own j }

module _ (counts : LogCounts) (m : List ℕ) (held : HoldsLog counts m) (it : LogRecord) (n : List ℕ)
    (put : IsPut (0x1A000 + counts.used) counts.records it m n) (room : counts.used + 24 + length it.bytes ≤ 65536) where
  abbrev after : LogCounts
  after = record { records = counts.records + 1; used = counts.used + (24 + length it.bytes) }

  before_stays : (p : ℕ) → 0x1A000 ≤ p → p < 0x1A000 + counts.used → byte_at n p ≡ byte_at m p
  before_stays p low high = put.elsewhere p (inl high)

  end_before : record_place n counts.records ≡ 0x1A000 + counts.used
  end_before = end_stays counts m held n put.size before_stays

  pub added : log_in after n ≡ logged (log_in counts m) it.region it.offset it.bytes
  added =
      ap (records_from n 0x1A000) (add-one counts.records) ∙ record_more n 0x1A000 counts.records
      ∙ ap (λ records. records ++ record_at n (record_place n counts.records) ∷ []) (log_stays counts m held n put.size before_stays)
      ∙ ap (λ last. log_in counts m ++ last ∷ [])
      (ap (record_at n) end_before ∙ record_put (0x1A000 + counts.used) counts.records it m n put)

  end_after : record_place n (counts.records + 1) ≡ 0x1A000 + (counts.used + (24 + length it.bytes))
  end_after =
      let last : end_of n (0x1A000 + counts.used) ≡ 0x1A000 + (counts.used + (24 + length it.bytes)) = omega (arith, put.count) in
      ap (record_place n) (add-one counts.records) ∙ end_more n 0x1A000 counts.records ∙ ap (end_of n) end_before ∙ last

  numbers_after : (i : ℕ) → i < counts.records + 1 → number_at n 8 (record_place n i) ≡ i
  numbers_after i small =
      elim (cases_lt i counts.records) [
        | inl older ↦ number_stays counts m held n put.size before_stays i older
        | inr last ↦
            let same : i ≡ counts.records = omega (arith, last, small) in
            ap (λ k. number_at n 8 (record_place n k)) same ∙ ap (number_at n 8) end_before ∙ put.number ∙ sym same
      ]

  pub held_after : HoldsLog after n
  held_after = record {
    size = omega (arith, held.size, put.size);
    used = omega (arith, room);
    end = end_after;
    numbers = numbers_after;
    behind = λ p low high. put.elsewhere p (inr (omega (arith, low))) ∙ held.behind p (omega (arith, low)) high;
  }

  pub differs : DiffersInLog m n
  differs = record {
    size = put.size;
    elsewhere = λ p apart.
        put.elsewhere p
        (elim apart [ inl low ↦ inl (omega (arith, low)) | inr high ↦ inr (omega (arith, high, room)) ]);
  }

-- what adding leaves: one record more, and a log of one more
pub record IsAdded (counts : LogCounts) (it : LogRecord) (m n : List ℕ) : Type 0 where
  pub one_more : log_in (record { records = counts.records + 1; used = counts.used + (24 + length it.bytes) }) n
      ≡ logged (log_in counts m) it.region it.offset it.bytes
  pub held : HoldsLog (record { records = counts.records + 1; used = counts.used + (24 + length it.bytes) }) n

pub is_added : (counts : LogCounts) (at i : ℕ) (it : LogRecord) (m n : List ℕ) → at ≡ 0x1A000 + counts.used → i ≡ counts.records
    → HoldsLog counts m → 24 + length it.bytes ≤ room_of (log_in counts m) → IsPut at i it m n → IsAdded counts it m n
is_added counts at i it m n at_is i_is held room put =
    let here : IsPut (0x1A000 + counts.used) counts.records it m n =
    subst (λ k. IsPut (0x1A000 + counts.used) k it m n) i_is (subst (λ p. IsPut p i it m n) at_is put) in
    let fits : counts.used + 24 + length it.bytes ≤ 65536 = omega (arith, room, used_by counts m held, held.used) in
    record { one_more = added counts m held it n here fits; held = held_after counts m held it n here fits }
