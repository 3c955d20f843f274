use Rattle.std.proofs.Common.{◌<◌, ℕ}
use Rattle.region_book.proofs.OnceFrames.{IsNewAt}
use Rattle.region_book.proofs.pages.has_twice.Given as goal

abbrev pub invariant-loop-place : goal.invariant-loop-place
invariant-loop-place l = (i : ℕ) → i < l.place → IsNewAt l.list i
