use Rattle.std.proofs.Common.{length}
use Rattle.cpu_step.proofs.processor.Cpu.refuse_body.Goals as goal

pub raise-requires : goal.raise-requires
raise-requires c = record { sound = c.drop_fault.ensures.sound (length c.args.mem.now) c.requires.sound }
