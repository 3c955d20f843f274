use Rattle.std.proofs.Common.{ap, arith, subst, sym, ◌∙◌}
use Rattle.region_book.specs.BitChanges.{DiffersInBits}
use Rattle.region_book.specs.RegionBytes.{bits_in}
use Rattle.region_book.proofs.BitBytes.{bits_stored, differs_stored}
use Rattle.region_book.proofs.bits.put.Goals as goal

pub returns-clause-bits : goal.returns-clause-bits
returns-clause-bits c =
    ap bits_in c.store8.ensures.stored
    ∙ bits_stored c.args.mem.now c.from.result c.args.byte c.args.value c.from.ensures c.requires.byte (omega arith)

pub returns-clause-elsewhere : goal.returns-clause-elsewhere
returns-clause-elsewhere c =
    subst (DiffersInBits c.args.mem.now) (sym c.store8.ensures.stored)
    (differs_stored c.args.mem.now c.from.result c.args.byte c.args.value c.from.ensures c.requires.byte (omega arith))
