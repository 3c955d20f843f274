use Rattle.page_desc.specs.DescriptorBytes.{HoldsTables}
use Rattle.nested_tests.proofs.tables.wrong_row.Given as goal

abbrev pub invariant-loop-index : goal.invariant-loop-index
invariant-loop-index l = HoldsTables l.tables.frames l.tables.root l.mem
