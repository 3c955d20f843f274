-- Laws on runs of bytes, for the crates above too.
use Rattle.std.proofs.Common.{◌≡◌, ℕ, ◌+◌, ◌≤◌, List, ◌++◌, length, take, drop, sym, ap, ◌∙◌, arith}
use Rattle.std.proofs.lemmas.List.{length-append, length-take, length-drop}
use Rattle.std.proofs.Math.Seq.{take-length}
use Rattle.phys_mem.specs.Runs.{run_at, with_run}

-- a run that fits is put in without a cut
pub with_run-fits : (m : List ℕ) (p : ℕ) (bs : List ℕ) → p + length bs ≤ length m → with_run m p bs ≡ take p m ++ bs ++ drop (p + length bs) m
with_run-fits m p bs h =
    let put = take p m ++ bs ++ drop (p + length bs) m in
    let long : length put ≡ length m = simp (length-append, length-take, length-drop) (omega arith) in
    ap (λ n. take n put) (sym long) ∙ take-length put

-- putting a run in keeps the length, also where the run is cut
pub length-with_run : (m : List ℕ) (p : ℕ) (bs : List ℕ) → p ≤ length m → length (with_run m p bs) ≡ length m
length-with_run m p bs h = simp (length-append, length-take, length-drop) (omega arith)

-- a run within has the length that was asked
pub length-run_at : (m : List ℕ) (p n : ℕ) → p + n ≤ length m → length (run_at m p n) ≡ n
length-run_at m p n h = simp (length-take, length-drop) (omega arith)
