use Rattle.std.proofs.Common.{length, ◌/◌, Some, subst, sym}
use Rattle.nk_bits.specs.Translations.{NamesFramesIn, Translations}
use Rattle.cpu_step.proofs.TurnLemmas.{sound_without}
use Rattle.cpu_step.proofs.processor.Cpu.keep.Goals as goal

pub returns-in-Some-clause-sound : goal.returns-in-Some-clause-sound
returns-in-Some-clause-sound c =
    let size = length c.args.mem.now in
    sound_without size _ c.args.self.now c.keep.new.self
    (λ within.
    subst (λ (t : Translations). NamesFramesIn size t) (sym c.keep.ensures.kept)
    (c.named_law.ensures.entry_kept size c.self.inside.tlb c.args.level (c.args.page / 4096) (Some c.in-Some.it) within
    c.in-Some.ensures.frame))
    c.self.view_is c.requires.sound
