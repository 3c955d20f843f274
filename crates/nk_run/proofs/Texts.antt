-- Texts that go out one behind the other.
use Rattle.std.proofs.Common.{◌≡◌, ℕ, ◌+◌, ◌≤◌, inl, inr, Option, List, ◌++◌, length, take, sym, ap, subst, arith, length-append, Result, Ok, Err}
use Rattle.std.specs.Prelude.{MatchResult}
use Rattle.std.specs.Io.KnownBytes.{Appends}
use Rattle.std.proofs.KnownBytes.{Appends-trans}
use Rattle.std.proofs.Math.Seq.{take-append-add}
use Rattle.std.proofs.lemmas.List.{take-append-le}
use Rattle.nk_host.specs.FaultCounts.{RoseTo}
use Rattle.nk_host.specs.Taken.{AppendsPrefix}
use Rattle.nk_host.specs.TextPuts.{IsTextPut}
use Rattle.nk_run.specs.Clauses.{TookAll, TookPrefix}
use Rattle.nk_run.specs.Replies.{IsWritten}
use Rattle.nk_run.specs.declared.status.Status.{Status}
use Rattle.nk_run.specs.declared.status.Status.TheVariants.{Cut}
use Rattle.nk_run.specs.Statuses.{status_number}
use Rattle.nk_run.specs.Witness.{sink_change}

-- a count that rose from a later moment on rose
pub rose_before : (was then_was is : ℕ) → was ≤ then_was → RoseTo then_was is → RoseTo was is
rose_before was then_was is low rose = omega (arith, low, rose)

-- a text, and a prefix of the next one
pub prefix_behind : (a b c : Option (List ℕ)) (x y : List ℕ) → Appends a b x → AppendsPrefix b c y → AppendsPrefix a c (x ++ y)
prefix_behind a b c x y whole (n, short, appended) = (
  length x + n,
  omega (arith, short, length-append x y),
  subst (Appends a c) (sym (take-append-add x y n)) (Appends-trans a b c x (take n y) whole appended),
)

-- a prefix of the first text is one of both
pub prefix_of_both : (a b : Option (List ℕ)) (x y : List ℕ) → AppendsPrefix a b x → AppendsPrefix a b (x ++ y)
prefix_of_both a b x y (n, short, appended) = (
  n,
  omega (arith, short, length-append x y),
  subst (Appends a b) (sym (take-append-le n x y short)) appended,
)

-- a text was put, and what was put behind it is the rest
pub went_on : {O A E : Type 0} (taken : O → Option (List ℕ)) (faults : O → ℕ) (a b c : O) (bytes x y : List ℕ) (put : Result A E)
    → bytes ≡ x → faults a ≤ faults b → Appends (taken a) (taken b) bytes
    → IsTextPut taken faults b c y put → IsTextPut taken faults a c (x ++ y) put
went_on taken faults a b c bytes x y (Ok _) e low whole next = record {
  never_falls = omega (arith, low, next.never_falls);
  failed = tt;
  all = Appends-trans (taken a) (taken b) (taken c) x y (subst (Appends (taken a) (taken b)) e whole) next.all;
  some = tt;
}
went_on taken faults a b c bytes x y (Err _) e low whole next = record {
  never_falls = omega (arith, low, next.never_falls);
  failed = rose_before (faults a) (faults b) (faults c) low next.failed;
  all = tt;
  some = prefix_behind (taken a) (taken b) (taken c) x y (subst (Appends (taken a) (taken b)) e whole) next.some;
}

-- a text that was put is written with its status, or cut by a fault
pub put_written : {O A E : Type 0} (taken : O → Option (List ℕ)) (faults : O → ℕ) (a b : O) (put : Result A E) (own result : Status)
    (bytes text : List ℕ) → bytes ≡ text → IsTextPut taken faults a b bytes put
    → MatchResult put (λ _. result ≡ own) (λ _. result ≡ Cut)
    → IsWritten (sink_change taken faults a b) (status_number own) text (status_number result)
put_written taken faults a b (Ok _) own result bytes text same it is =
    inl (ap status_number is, subst (TookAll (sink_change taken faults a b)) same it.all)
put_written taken faults a b (Err _) own result bytes text same it is =
    inr (ap status_number is, it.failed, subst (TookPrefix (sink_change taken faults a b)) same it.some)
