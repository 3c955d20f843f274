-- What an owner of bytes ends as, once a run of them that it lent has ended.
use Rattle.std.specs.Prelude.{ℕ, List}
use Rattle.std.specs.Borrow.{Fml, MutBor, Array, Lends, u8}
use Rattle.phys_mem.specs.Runs.{with_run}
use Rattle.phys_mem.specs.declared.cells.Cells.{Cells}
use Rattle.phys_mem.specs.contracts.cells.Cells.{the_row}

-- c with these bytes
abbrev pub with_bytes : Cells → List ℕ → Cells
with_bytes c bs = record { heap = c.heap; at = c.at; bytes = bs; spare = c.spare }

-- once r has ended, c has the last bytes behind r from place p on
abbrev pub LendsCells : MutBor Cells → ℕ → MutBor (List ℕ) → Fml
LendsCells c p r = Lends the_row (Array u8 0) c r (λ ws. with_bytes c.now (with_run c.now.bytes p ws))
