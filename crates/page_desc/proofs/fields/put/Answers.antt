use Rattle.std.proofs.Common.{arith, subst, sym}
use Rattle.page_desc.proofs.FieldStores.{IsPut, is_put}
use Rattle.page_desc.proofs.fields.put.Goals as goal

pub returns : goal.returns
returns c =
    let put : IsPut c.args.frames c.args.at c.args.frame c.args.value c.args.mem.now c.set_field.new.mem =
    subst (IsPut c.args.frames c.args.at c.args.frame c.args.value c.args.mem.now) (sym c.set_field.ensures)
    (is_put c.memory_law.ensures c.args.mem.now c.args.at c.args.frame c.args.value c.args.frames (omega arith) c.requires.memory.1 c.requires.at c.requires.frame (omega arith)) in
    record { here = put.here; apart = put.apart; differs = put.differs }
