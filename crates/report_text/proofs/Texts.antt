-- Texts that go out one behind the other.
use Rattle.std.proofs.Common.{◌≡◌, ℕ, ◌+◌, ◌≤◌, Option, Result, OnErr, OnOk, List, [], ◌++◌, length, take, sym, subst, arith, length-append}
use Rattle.std.specs.Io.KnownBytes.{Appends}
use Rattle.std.proofs.KnownBytes.{Appends-trans, Appends-nil}
use Rattle.std.proofs.Math.Seq.{take-append-add}
use Rattle.std.proofs.lemmas.List.{take-append-le}
use Rattle.nk_host.specs.FaultCounts.{RoseTo}
use Rattle.nk_host.specs.Taken.{AppendsPrefix}
use Rattle.nk_host.specs.TextPuts.{IsTextPut}
use Rattle.report_text.proofs.Known.{err_as, err_then, ok_as, ok_then}

-- a count that rose from a later moment on rose
pub rose_before : (was then_was is : ℕ) → was ≤ then_was → RoseTo then_was is → RoseTo was is
rose_before was then_was is low rose = omega (arith, low, rose)

-- a text, and a prefix of the next one
pub prefix_behind : (a b c : Option (List ℕ)) (x y : List ℕ) → Appends a b x → AppendsPrefix b c y
    → AppendsPrefix a c (x ++ y)
prefix_behind a b c x y whole (n, short, appended) = (
  length x + n,
  omega (arith, short, length-append x y),
  subst (Appends a c) (sym (take-append-add x y n)) (Appends-trans a b c x (take n y) whole appended),
)

-- a prefix of the first text is one of both
pub prefix_of_both : (a b : Option (List ℕ)) (x y : List ℕ) → AppendsPrefix a b x → AppendsPrefix a b (x ++ y)
prefix_of_both a b x y (n, short, appended) = (
  n,
  omega (arith, short, length-append x y),
  subst (Appends a b) (sym (take-append-le n x y short)) appended,
)

-- a text was put, and behind it the next one where the second put went well, or a prefix where a fault cut it
pub put_behind : {A E : Type 0} (r : Result A E) (a b c : Option (List ℕ)) (bytes x other y : List ℕ) → bytes ≡ x
    → other ≡ y
    → Appends a b bytes → OnOk r (Appends b c other) → OnOk r (Appends a c (x ++ y))
put_behind r a b c bytes x other y first second whole put =
    ok_then r (λ h. Appends-trans a b c x y (subst (Appends a b) first whole) (subst (Appends b c) second h)) put

pub cut_behind : {A E : Type 0} (r : Result A E) (a b c : Option (List ℕ)) (bytes x other y : List ℕ) → bytes ≡ x
    → other ≡ y
    → Appends a b bytes → OnErr r (AppendsPrefix b c other) → OnErr r (AppendsPrefix a c (x ++ y))
cut_behind r a b c bytes x other y first second whole cut =
    err_then r (λ h. prefix_behind a b c x y (subst (Appends a b) first whole) (subst (AppendsPrefix b c) second h)) cut

module _ {O : Type 0} (taken : O → Option (List ℕ)) (faults : O → ℕ) where
  -- a text that is the same was put
  pub same_put : {A E : Type 0} {r : Result A E} {a b : O} {x y : List ℕ} → x ≡ y → IsTextPut taken faults a b x r
      → IsTextPut taken faults a b y r
  same_put {r = r} {a = a} {b = b} same put = subst (λ l. IsTextPut taken faults a b l r) same put

  -- a text was put whole, and the next one behind it, whole or not
  pub both_put : {A E B F : Type 0} {it : B} (r : Result A E) (a b c : O) (bytes x other y : List ℕ) → bytes ≡ x → other ≡ y
      → IsTextPut taken faults a b bytes (ok_as F it) → IsTextPut taken faults b c other r
      → IsTextPut taken faults a c (x ++ y) r
  both_put r a b c bytes x other y first second put next = record {
    never_falls = omega (arith, put.never_falls, next.never_falls);
    failed = err_then r (rose_before (faults a) (faults b) (faults c) put.never_falls) next.failed;
    all = put_behind r (taken a) (taken b) (taken c) bytes x other y first second put.all next.all;
    some = cut_behind r (taken a) (taken b) (taken c) bytes x other y first second put.all next.some;
  }

  -- a fault cut the first of two texts
  pub both_cut : {A E B F : Type 0} {e : E} {f : F} (a b : O) (bytes x y : List ℕ) → bytes ≡ x
      → IsTextPut taken faults a b bytes (err_as B f)
      → IsTextPut taken faults a b (x ++ y) (err_as A e)
  both_cut a b bytes x y same cut = record {
    never_falls = cut.never_falls;
    failed = cut.failed;
    all = tt;
    some = prefix_of_both (taken a) (taken b) x y (subst (AppendsPrefix (taken a) (taken b)) same cut.some);
  }

  -- of a text some went out before, and a fault cut what went out then
  pub later_cut : {A E B F : Type 0} {e : E} {f : F} (a b c : O) (x y : List ℕ) → faults a ≤ faults b
      → IsTextPut taken faults b c x (err_as B f) → AppendsPrefix (taken a) (taken c) y
      → IsTextPut taken faults a c y (err_as A e)
  later_cut a b c x y low cut part = record {
    never_falls = omega (arith, low, cut.never_falls);
    failed = rose_before (faults a) (faults b) (faults c) low cut.failed;
    all = tt;
    some = part;
  }

  -- all of a text went out
  pub whole_put : {A E : Type 0} {it : A} (a b : O) (x : List ℕ) → faults a ≤ faults b → Appends (taken a) (taken b) x
      → IsTextPut taken faults a b x (ok_as E it)
  whole_put a b x low all = record { never_falls = low; failed = tt; all = all; some = tt }

  -- nothing went out, where the text is none
  pub none_put : {A E : Type 0} {it : A} (a : O) (x : List ℕ) → [] ≡ x → IsTextPut taken faults a a x (ok_as E it)
  none_put a x none = whole_put a a x (omega arith) (subst (Appends (taken a) (taken a)) none (Appends-nil (taken a)))
