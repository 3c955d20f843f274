use Rattle.std.proofs.Common.{◌*◌, ◌/◌, ◌<◌, IfSome, length, subst, sym, ◌∙◌}
use Rattle.gate_state.proofs.looks.look_up.Goals as goal

-- a translation that is kept names a frame in memory
pub returns-in-Some-clause-frame : goal.returns-in-Some-clause-frame
returns-in-Some-clause-frame c =
    subst (λ found. IfSome found (λ leaf. 4096 * leaf.frame < length c.args.mem.now)) (sym c.look.ensures.found ∙ c.in-Some.is)
    (c.translation_law.ensures.look_within c.args.tlb.now (c.args.va / 4096) (length c.args.mem.now) c.requires.context.frames)
