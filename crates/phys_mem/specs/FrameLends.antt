-- How a frame of the memory is lent.
use Rattle.std.specs.Prelude.{ℕ, ◌*◌, List}
use Rattle.std.specs.Borrow.{Fml, MutBor, Array, Lends, u8}
use Rattle.phys_mem.specs.Runs.{with_run}
use Rattle.phys_mem.specs.contracts.memory.PhysMem.{the_row}

-- m with the bytes bs from the start of frame f on, cut to the length of m
abbrev pub with_frame : List ℕ → ℕ → List ℕ → List ℕ
with_frame m f bs = with_run m (4096 * f) bs

-- once r has ended, s is as it was, but for the last bytes behind r from the start of frame f on
abbrev pub LendsFrame : MutBor (List ℕ) → ℕ → MutBor (List ℕ) → Fml
LendsFrame s f r = Lends the_row (Array u8 0) s r (with_frame s.now f)
