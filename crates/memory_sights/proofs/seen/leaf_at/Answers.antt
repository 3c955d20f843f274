use Rattle.std.proofs.Common.{◌/◌, length, sym, subst, ◌∙◌}
use Rattle.nk_bits.specs.Paging.{page_of}
use Rattle.nk_bits.specs.Translations.{NamesFramesIn}
use Rattle.phys_mem.specs.Memory.{entry_in}
use Rattle.cpu_step.specs.Processor.{Processor}
use Rattle.gate_state.specs.MachineOf.{whole_of}
use Rattle.gate_state.specs.MachineStates.{MachineState}
use Rattle.memory_sights.proofs.SightsFound.{frame_within}
use Rattle.memory_sights.proofs.seen.leaf_at.Goals as goal

pub returns-clause-frame : goal.returns-clause-frame
returns-clause-frame c =
    let s : MachineState = (whole_of c.args.machine.now).state in
    let named : NamesFramesIn (length s.memory) s.processor.tlb =
    subst (λ (p : Processor). NamesFramesIn (length s.memory) p.tlb) c.processor-sound.ensures.processor c.processor-sound.ensures.sound.context.frames in
    frame_within c.translation.result (entry_in s.memory) s.processor.control.root (page_of c.args.va) (length s.memory)
    (whole_of c.args.machine.now).opening.frames s.processor.tlb
    (sym c.memory-whole_frames.ensures.length ∙ c.memory-whole_frames.ensures.size)
    (c.translation_law.ensures.look_within s.processor.tlb (page_of c.args.va) (length s.memory) named)
    (c.named_law.ensures.found (entry_in s.memory) (length s.memory / 4096) s.processor.control.root (page_of c.args.va) s.processor.tlb)
    c.translation.ensures
