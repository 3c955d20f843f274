use Rattle.std.proofs.Common.{length, ap, ◌∙◌}
use Rattle.cpu_step.specs.declared.stepped.Stepped.{Stepped}
use Rattle.cpu_step.specs.Turns.{turned_to}
use Rattle.cpu_step.proofs.processor.Cpu.act.Goals as goal

pub returns-in-In-clause-acted : goal.returns-in-In-clause-acted
returns-in-In-clause-acted c =
    ap (λ (shown : Stepped). turned_to c.input.new.self c.args.mem.now shown) c.requires.ran
    ∙ rw c.in-In.is (c.input.ensures.acted c.args.mem.now)

pub returns-in-In-clause-sound : goal.returns-in-In-clause-sound
returns-in-In-clause-sound c = c.input.ensures.sound (length c.args.mem.now) c.requires.sound

pub returns-in-Out-clause-sound : goal.returns-in-Out-clause-sound
returns-in-Out-clause-sound c = c.output.ensures.sound (length c.args.mem.now) c.requires.sound

pub returns-in-DropPage-clause-sound : goal.returns-in-DropPage-clause-sound
returns-in-DropPage-clause-sound c = c.invalidate.ensures.sound (length c.args.mem.now) c.requires.sound
