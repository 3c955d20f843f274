-- Texts that were taken one behind the other.
use Rattle.std.proofs.Common.{◌≡◌, ℕ, ◌+◌, ◌≤◌, Option, Result, Ok, Err, List, [], ◌++◌, length, take, sym, subst, arith, length-append}
use Rattle.std.specs.Prelude.{⊤}
use Rattle.std.specs.Io.KnownBytes.{Appends}
use Rattle.std.proofs.KnownBytes.{Appends-trans, Appends-nil}
use Rattle.std.proofs.Math.Seq.{take-append-add}
use Rattle.std.proofs.lemmas.List.{take-append-le}
use Rattle.nk_host.specs.FaultCounts.{RoseTo}
use Rattle.nk_host.specs.Taken.{AppendsPrefix}
use Rattle.step_trace.specs.declared.ends.TraceFault.{TraceFault}
use Rattle.step_trace.specs.declared.ends.TraceFault.TheVariants as fault
use Rattle.step_trace.specs.TraceFaults.{FailsBy}
use Rattle.step_trace.specs.TracesPut.{IsTaken}

-- results of these types
abbrev pub done_as : {A : Type 0} → A → Result A TraceFault
done_as a = Ok a

abbrev pub failed_as : (A : Type 0) → TraceFault → Result A TraceFault
failed_as A e = Err e

-- a count that rose from a later moment on rose
rose_before : (was then_was is : ℕ) → was ≤ then_was → RoseTo then_was is → RoseTo was is
rose_before was then_was is low rose = omega (arith, low, rose)

-- a text, and a prefix of the next one
prefix_behind : (a b c : Option (List ℕ)) (x y : List ℕ) → Appends a b x → AppendsPrefix b c y → AppendsPrefix a c (x ++ y)
prefix_behind a b c x y whole (n, short, appended) = (
  length x + n,
  omega (arith, short, length-append x y),
  subst (Appends a c) (sym (take-append-add x y n)) (Appends-trans a b c x (take n y) whole appended),
)

-- a prefix of the first text is one of both
prefix_of_both : (a b : Option (List ℕ)) (x y : List ℕ) → AppendsPrefix a b x → AppendsPrefix a b (x ++ y)
prefix_of_both a b x y (n, short, appended) = (
  n,
  omega (arith, short, length-append x y),
  subst (Appends a b) (sym (take-append-le n x y short)) appended,
)

-- nothing is a prefix of any text
prefix_none : (a : Option (List ℕ)) (x : List ℕ) → AppendsPrefix a a x
prefix_none a x = (0, omega arith, Appends-nil a)

-- a fault is the same whatever else a result may be
same_fault : (A B : Type 0) (e : TraceFault) (before after : ℕ) → FailsBy before after (failed_as A e)
    → FailsBy before after (failed_as B e)
same_fault A B (fault.Cut it) before after rose = rose
same_fault A B fault.NoMemory before after rose = tt

-- and of a count that rose later
fault_before : (A : Type 0) (e : TraceFault) (was then_was is : ℕ) → was ≤ then_was → FailsBy then_was is (failed_as A e)
    → FailsBy was is (failed_as A e)
fault_before A (fault.Cut it) was then_was is low rose = rose_before was then_was is low rose
fault_before A fault.NoMemory was then_was is low rose = tt

module _ {O : Type 0} (taken : O → Option (List ℕ)) (faults : O → ℕ) where
  -- a text was taken whole, and the next one behind it, whole or not
  pub both_taken : {A B : Type 0} {it : B} (put : Result A TraceFault) (a b c : O) (x y : List ℕ)
      → IsTaken taken faults a b x (done_as it) → IsTaken taken faults b c y put → IsTaken taken faults a c (x ++ y) put
  both_taken {A} (Ok done) a b c x y first second = record {
    never_falls = omega (arith, first.never_falls, second.never_falls);
    failed = tt;
    all = Appends-trans (taken a) (taken b) (taken c) x y first.all second.all;
    some = tt;
  }
  both_taken {A} (Err e) a b c x y first second = record {
    never_falls = omega (arith, first.never_falls, second.never_falls);
    failed = fault_before A e (faults a) (faults b) (faults c) first.never_falls second.failed;
    all = tt;
    some = prefix_behind (taken a) (taken b) (taken c) x y first.all second.some;
  }

  -- the first of two texts was cut
  pub first_cut : {A B : Type 0} {e : TraceFault} {a b : O} {x : List ℕ} (y : List ℕ)
      → IsTaken taken faults a b x (failed_as A e) → IsTaken taken faults a b (x ++ y) (failed_as B e)
  first_cut {A} {B} {e} {a} {b} {x} y cut = record {
    never_falls = cut.never_falls;
    failed = same_fault A B e (faults a) (faults b) cut.failed;
    all = tt;
    some = prefix_of_both (taken a) (taken b) x y cut.some;
  }

  -- a text was taken whole, whatever else was done
  pub done_whole : {A : Type 0} {it : A} {a b : O} {x : List ℕ} → IsTaken taken faults a b x (done_as it)
      → IsTaken taken faults a b x (done_as {A = ⊤} tt)
  done_whole whole = record { never_falls = whole.never_falls; failed = tt; all = whole.all; some = tt }

  -- the same text in other words was taken
  pub so_taken : {A : Type 0} (put : Result A TraceFault) (a b : O) (x y : List ℕ) → x ≡ y
      → IsTaken taken faults a b x put → IsTaken taken faults a b y put
  so_taken put a b x y same it = subst (λ l. IsTaken taken faults a b l put) same it

  -- and whole, or in part, whatever else comes of it
  pub whole_taken : {A B : Type 0} (it : A) (other : B) (old new : O) (text same : List ℕ) → text ≡ same
      → IsTaken taken faults old new text (done_as it) → IsTaken taken faults old new same (done_as other)
  whole_taken it other old new text same is_same is = record {
    never_falls = is.never_falls;
    failed = tt;
    all = subst (Appends (taken old) (taken new)) is_same is.all;
    some = tt;
  }

  pub part_taken : (A B : Type 0) (e : TraceFault) (old new : O) (text same : List ℕ) → text ≡ same
      → IsTaken taken faults old new text (failed_as A e) → IsTaken taken faults old new same (failed_as B e)
  part_taken A B e old new text same is_same is = record {
    never_falls = is.never_falls;
    failed = same_fault A B e (faults old) (faults new) is.failed;
    all = tt;
    some = subst (AppendsPrefix (taken old) (taken new)) is_same is.some;
  }

  -- nothing was taken: of no text, or for want of memory
  pub none_taken : (a : O) → IsTaken taken faults a a [] (done_as {A = ⊤} tt)
  none_taken a = record { never_falls = omega arith; failed = tt; all = Appends-nil (taken a); some = tt }

  pub none_cut : (A : Type 0) (a : O) (x : List ℕ) → IsTaken taken faults a a x (failed_as A fault.NoMemory)
  none_cut A a x = record { never_falls = omega arith; failed = tt; all = tt; some = prefix_none (taken a) x }
