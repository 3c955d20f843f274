-- A run that is put into a block is a patch of the memory.
use Rattle.std.proofs.Common.{◌≡◌, ℕ, ◌+◌, ◌≤◌, List, length, replicate, ap, ◌∙◌, arith}
use Rattle.std.proofs.lemmas.List.{length-replicate}
use Rattle.std.proofs.Math.Seq.{sets, sets-eq}
use Rattle.phys_mem.specs.Memory.{patched}
use Rattle.phys_mem.specs.Runs.{with_run}
use Rattle.phys_mem.proofs.RunLaws.{with_run-fits, length-with_run}

-- bytes set in turn are a patch
pub sets-patched : (m : List ℕ) (p : ℕ) (bs : List ℕ) → p + length bs ≤ length m → sets m p bs ≡ patched m p bs
unfolding patched
sets-patched m p bs h = sets-eq bs m p h

-- a run that fits, put into a block that is seen as m
pub with_run-patched : (b m : List ℕ) (p q : ℕ) (ws bs : List ℕ) → b ≡ m → p ≡ q → ws ≡ bs → q + length bs ≤ length m → with_run b p ws ≡ patched m q bs
unfolding patched
with_run-patched b m p q ws bs is at same h = ap (λ (x : List ℕ × ℕ × List ℕ). with_run x.0 x.1 x.2) (λ j. (is j, at j, same j)) ∙ with_run-fits m q bs h

-- n zero bytes, put into a block that is seen as m
pub with_run-zeroed : (b m : List ℕ) (p q n : ℕ) (ws : List ℕ) → b ≡ m → p ≡ q → ws ≡ replicate n 0 → q + n ≤ length m → with_run b p ws ≡ patched m q (replicate n 0)
with_run-zeroed b m p q n ws is at same h = with_run-patched b m p q ws (replicate n 0) is at same (omega (arith, length-replicate {A = ℕ} n 0))

-- a run that is put in keeps the length
pub length-put : (b m : List ℕ) (p : ℕ) (ws : List ℕ) → b ≡ m → p ≤ length m → length (with_run b p ws) ≡ length m
length-put b m p ws is h = ap (λ x. length (with_run x p ws)) is ∙ length-with_run m p ws h
