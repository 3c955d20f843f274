use Rattle.std.proofs.Common.{subst, sym}
use Rattle.nk_bits.specs.Translations.{NamesFramesIn, Translations}
use Rattle.cpu_step.proofs.TurnLemmas.{sound_without}
use Rattle.cpu_step.proofs.processor.Cpu.drop_fault.Goals as goal

pub returns-clause-sound : goal.returns-clause-sound
returns-clause-sound c size s =
    sound_without size _ c.args.self.now c.drop_fault.new.self
    (λ within.
    subst (λ (t : Translations). NamesFramesIn size t) (sym c.drop_fault.ensures.faulted)
    (c.named_law.ensures.faulted size c.self.inside.tlb c.args.page within)) c.self.view_is s
