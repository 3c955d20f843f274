use Rattle.std.proofs.lemmas.List.{drop_more}
use Rattle.trap_unit.proofs.KeptPushes.{none_pushed, one_pushed}
use Rattle.trap_unit.proofs.stack.push_kept.Goals as goal

pub loop-value-init : goal.loop-value-init
loop-value-init c = none_pushed c.args.values.now c.args.place c.args.mem.now c.requires.few

pub loop-value-preserved : goal.loop-value-preserved
loop-value-preserved c =
    one_pushed c.one_page_law.ensures.stores c.args.values.now c.args.place c.args.mem.now c.loop-value.value-index c.loop-value.at c.loop-value.mem _ c.put_kept.new.mem
    c.loop-value.invariant c.loop-value-test.true c.requires.few (drop_more c.args.values.now c.loop-value.value-index 0 c.loop-value-test.true) c.put_kept.ensures.stored c.put_kept.ensures.length
