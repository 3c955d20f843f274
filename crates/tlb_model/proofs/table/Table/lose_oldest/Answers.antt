use Rattle.std.proofs.Common.{ap, drop, sym, ◌∙◌}
use Rattle.tlb_model.specs.SlotBuckets.{slot_at}
use Rattle.tlb_model.proofs.Ages.{stands_kept}
use Rattle.tlb_model.proofs.Cleaned.{oldest_dropped, some_age}
use Rattle.tlb_model.proofs.table.Table.lose_oldest.Goals as goal

pub stands_first-requires : goal.stands_first-requires
stands_first-requires c =
    record { table = c.loop-self.invariant.table; some = some_age c.loop-self.self c.args.self.now.order c.loop-self.invariant.table c.loop-self.invariant.count c.requires.some }

pub pass-requires : goal.pass-requires
pass-requires c =
    record {
      table = c.loop-self.invariant.table;
      some = some_age c.loop-self.self c.args.self.now.order c.loop-self.invariant.table c.loop-self.invariant.count c.requires.some;
      stale = λ at found. sym (c.stands_first.ensures.stands at found) ∙ c.loop-self-test.true;
    }

pub first-requires : goal.first-requires
first-requires c =
    record { table = c.loop-self.invariant.table; some = some_age c.loop-self.self c.args.self.now.order c.loop-self.invariant.table c.loop-self.invariant.count c.requires.some }

pub retire-requires : goal.retire-requires
retire-requires c =
    record {
      table = c.loop-self.invariant.table;
      slot = c.first.ensures.slot;
      kept = stands_kept c.loop-self.self.generation c.loop-self.self.front (slot_at c.loop-self.self.slots c.first.result) (sym (c.stands_first.ensures.stands c.first.result c.first.ensures.first) ∙ c.loop-self-test.false);
    }

pub returns-clause-youngest : goal.returns-clause-youngest
returns-clause-youngest c =
    c.retire.ensures.dropped
    ∙ oldest_dropped c.loop-self.self c.first.result c.loop-self.invariant.table c.first.ensures.first (sym (c.stands_first.ensures.stands c.first.result c.first.ensures.first) ∙ c.loop-self-test.false)
    ∙ ap (drop 1) c.loop-self.invariant.same
