use Rattle.std.proofs.Common.{sym, arith}
use Rattle.tlb_model.specs.SlotBuckets.{empty_slot}
use Rattle.tlb_model.proofs.Looks.{look_kept, look_missing}
use Rattle.tlb_model.proofs.table.Table.search.Goals as goal

pub returns-then-at-lt-NO_SLOT : goal.returns-then-at-lt-NO_SLOT
returns-then-at-lt-NO_SLOT c = record {
  found = rw c.from.ensures (look_kept c.args.self.now c.find-at.result c.args.page (record empty_slot { place = 0 }) c.requires.table
      (c.find-at.ensures.kept c.if-at-lt-NO_SLOT.true) (c.find-at.ensures.page c.if-at-lt-NO_SLOT.true));
}

pub returns-else-at-lt-NO_SLOT : goal.returns-else-at-lt-NO_SLOT
returns-else-at-lt-NO_SLOT c = record {
  found = sym (look_missing c.args.self.now c.args.page (c.find-at.ensures.none (omega (arith, c.find-at.ensures.most, c.if-at-lt-NO_SLOT.false))));
}
