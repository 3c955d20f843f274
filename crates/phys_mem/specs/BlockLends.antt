-- What a block ends as, once a run of bytes that it lent has ended.
use Rattle.std.specs.Prelude.{ℕ, List}
use Rattle.std.specs.Borrow.{Fml, MutBor, Array, Lends, u8}
use Rattle.phys_mem.specs.Runs.{with_run}
use Rattle.phys_mem.specs.contracts.block.RawBlock.{the_row}

-- once r has ended, b has the last bytes behind r from place p on
abbrev pub LendsRun : MutBor (List ℕ) → ℕ → MutBor (List ℕ) → Fml
LendsRun b p r = Lends the_row (Array u8 0) b r (with_run b.now p)
