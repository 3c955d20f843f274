use Rattle.std.proofs.Common.{ap, sym, ◌∙◌}
use Rattle.phys_mem.specs.Memory.{stored}
use Rattle.exec_quick.proofs.kept.store.Goals as goal

pub returns-clause-stored : goal.returns-clause-stored
returns-clause-stored c =
    c.put_kept.ensures.stored
    ∙ ap (stored c.args.mem.now) (sym (c.one_page_law.ensures.stores c.args.va c.args.bytes c.args.value (record { first = c.args.place; second = 0 }) c.requires.one))
