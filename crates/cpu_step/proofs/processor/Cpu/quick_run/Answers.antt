use Rattle.cpu_step.proofs.QuickTurnLemmas.{no_turns}
use Rattle.cpu_step.proofs.processor.Cpu.quick_run.Goals as goal

pub returns-in_default-clause-turns : goal.returns-in_default-clause-turns
returns-in_default-clause-turns c = no_turns c.args.self.now c.args.mem.now
