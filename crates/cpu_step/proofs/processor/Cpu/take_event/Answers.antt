use Rattle.std.proofs.Common.{length}
use Rattle.cpu_step.proofs.processor.Cpu.take_event.Goals as goal

pub returns-in-Drop-clause-sound : goal.returns-in-Drop-clause-sound
returns-in-Drop-clause-sound c = c.drop_page.ensures.sound (length c.args.mem.now) c.requires.sound

pub returns-in-Forget-clause-sound : goal.returns-in-Forget-clause-sound
returns-in-Forget-clause-sound c = c.forget.ensures.sound (length c.args.mem.now) c.requires.sound
