use Rattle.std.proofs.Common.{length, ◌/◌, subst, sym}
use Rattle.nk_bits.specs.Translations.{NamesFramesIn, Translations}
use Rattle.cpu_step.proofs.TurnLemmas.{sound_without}
use Rattle.cpu_step.proofs.processor.Cpu.fill.Goals as goal

pub returns-in-Ok-clause-sound : goal.returns-in-Ok-clause-sound
returns-in-Ok-clause-sound c =
    let size = length c.args.mem.now in
    sound_without size _ c.args.self.now c.fill.new.self
    (λ within.
    subst (λ (t : Translations). NamesFramesIn size t) (sym c.fill.ensures.filled)
    (c.named_law.ensures.filled size c.self.inside.tlb (c.args.page / 4096) c.in-Ok.leaf within c.in-Ok.ensures.frame))
    c.self.view_is c.requires.sound
