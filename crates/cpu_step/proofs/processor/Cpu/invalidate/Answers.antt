use Rattle.std.proofs.Common.{subst, sym}
use Rattle.nk_bits.specs.Translations.{NamesFramesIn, Translations}
use Rattle.cpu_step.proofs.TurnLemmas.{sound_without}
use Rattle.cpu_step.proofs.processor.Cpu.invalidate.Goals as goal

pub returns-clause-sound : goal.returns-clause-sound
returns-clause-sound c size s =
    sound_without size _ c.args.self.now c.invalidate.new.self
    (λ within.
    subst (λ (t : Translations). NamesFramesIn size t) (sym c.invalidate.ensures.invalidated)
    (c.named_law.ensures.invalidated size c.self.inside.tlb c.args.page within)) c.self.view_is s
