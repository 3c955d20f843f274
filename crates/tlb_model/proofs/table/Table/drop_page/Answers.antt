use Rattle.std.proofs.Common.{sym, arith}
use Rattle.tlb_model.proofs.Looks.{dropped_missing}
use Rattle.tlb_model.proofs.table.Table.drop_page.Goals as goal

pub returns-else-at-lt-NO_SLOT-clause-dropped : goal.returns-else-at-lt-NO_SLOT-clause-dropped
returns-else-at-lt-NO_SLOT-clause-dropped c =
    sym (dropped_missing c.args.self.now c.args.page (c.find-at.ensures.none (omega (arith, c.find-at.ensures.most, c.if-at-lt-NO_SLOT.false))))
