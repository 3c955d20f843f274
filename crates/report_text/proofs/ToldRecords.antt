-- The lines of the records of a log, one record after another.
use Rattle.std.proofs.Common.{◌≡◌, ℕ, ◌+◌, ◌≤◌, List, [], ◌++◌, length, drop, Option, Some, refl, sym, ap, ◌∙◌, subst, append_assoc, append-nil, arith}
use Rattle.std.specs.Prelude.{slice_get}
use Rattle.std.specs.Io.KnownBytes.{Appends}
use Rattle.std.proofs.KnownBytes.{Appends-trans, Appends-nil}
use Rattle.std.proofs.Math.ListN.{drop_of_length-le}
use Rattle.nk_host.specs.Taken.{AppendsPrefix}
use Rattle.write_log.specs.LogRecords.{LogRecord}
use Rattle.report_text.specs.AuditLines.{after_record, audit_lines, audited, record_lines}
use Rattle.report_text.proofs.CountedLists.{from_place, length_behind}
use Rattle.report_text.proofs.Texts.{prefix_behind, prefix_of_both}

-- the lines of the records below this number went out, and these are the region's bytes behind them
pub record AreTold {O : Type 0} (taken : O → Option (List ℕ)) (faults : O → ℕ) (first now : O) (id : ℕ)
    (log : List LogRecord)
    (start b : List ℕ) (i : ℕ) : Type 0 where
  pub done : List ℕ
  pub split : audit_lines id 0 start log ≡ done ++ audit_lines id i b (drop i log)
  pub end : audited id start log ≡ audited id b (drop i log)
  pub sized : length b ≡ length start
  pub appended : Appends (taken first) (taken now) done
  pub never_fell : faults first ≤ faults now

module _ {O : Type 0} (taken : O → Option (List ℕ)) (faults : O → ℕ) (first now : O) (id : ℕ) (log : List LogRecord)
    (start : List ℕ) where
  -- at first none did
  pub told_begin : AreTold taken faults first first id log start start 0
  told_begin = record {
    done = [];
    split = refl;
    end = refl;
    sized = refl;
    appended = Appends-nil (taken first);
    never_fell = omega arith;
  }

  module _ (b : List ℕ) (i : ℕ) (told : AreTold taken faults first now id log start b i) where
    module _ (it : LogRecord) (at : slice_get log i ≡ Some it) where
      split_here : audit_lines id 0 start log
          ≡ told.done ++ (record_lines id i b it ++ audit_lines id (i + 1) (after_record id b it) (drop (i + 1) log))
      unfolding audit_lines
      split_here = told.split ∙ ap (λ l. told.done ++ audit_lines id i b l) (from_place log i it at)

      -- the lines of this record did
      pub told_on : (later : O) (then : List ℕ) → (it.region ≡ id → it.offset + length it.bytes ≤ length b)
          → Appends (taken now) (taken later) (record_lines id i b it) → faults now ≤ faults later
          → then ≡ after_record id b it
          → AreTold taken faults first later id log start then (i + 1)
      unfolding audited
      told_on later then within put low same = record {
        done = told.done ++ record_lines id i b it;
        split = split_here
            ∙ sym (append_assoc told.done (record_lines id i b it)
            (audit_lines id (i + 1) (after_record id b it) (drop (i + 1) log)))
            ∙ ap (λ b'. (told.done ++ record_lines id i b it) ++ audit_lines id (i + 1) b' (drop (i + 1) log)) (sym same);
        end = told.end ∙ ap (audited id b) (from_place log i it at)
            ∙ ap (λ b'. audited id b' (drop (i + 1) log)) (sym same);
        sized = ap length same ∙ length_behind id b it within ∙ told.sized;
        appended = Appends-trans (taken first) (taken now) (taken later) told.done (record_lines id i b it)
            told.appended put;
        never_fell = omega (arith, told.never_fell, low);
      }

      -- a fault cut them
      pub told_cut : (later : O) → AppendsPrefix (taken now) (taken later) (record_lines id i b it)
          → AppendsPrefix (taken first) (taken later) (audit_lines id 0 start log)
      told_cut later cut =
          let rest = audit_lines id (i + 1) (after_record id b it) (drop (i + 1) log) in
          subst (AppendsPrefix (taken first) (taken later)) (sym split_here)
          (prefix_behind (taken first) (taken now) (taken later) told.done (record_lines id i b it ++ rest) told.appended
          (prefix_of_both (taken now) (taken later) (record_lines id i b it) rest cut))

    -- the lines of all records did
    module _ (past : length log ≤ i) where
      pub told_all : Appends (taken first) (taken now) (audit_lines id 0 start log)
      unfolding audit_lines
      told_all =
          let all = told.split ∙ ap (λ l. told.done ++ audit_lines id i b l) (drop_of_length-le log past)
          ∙ append-nil told.done in
          subst (Appends (taken first) (taken now)) (sym all) told.appended

      pub told_end : b ≡ audited id start log
      unfolding audited
      told_end = sym (told.end ∙ ap (audited id b) (drop_of_length-le log past))
