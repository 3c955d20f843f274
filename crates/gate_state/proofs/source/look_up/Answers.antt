use Rattle.std.proofs.Common.{◌/◌, length, subst, sym}
use Rattle.nk_bits.specs.Translations.{NamesFramesIn, Translations}
use Rattle.gate_state.proofs.source.look_up.Goals as goal

pub returns-in-None-clause-frames : goal.returns-in-None-clause-frames
returns-in-None-clause-frames c =
    subst (λ (tlb : Translations). NamesFramesIn (length c.args.mem.now) tlb) (sym c.drop_fault.ensures.faulted)
    (c.named_law.ensures.faulted (length c.args.mem.now) c.translate.new.tlb (c.args.va / 4096) c.translate.ensures.frames)
