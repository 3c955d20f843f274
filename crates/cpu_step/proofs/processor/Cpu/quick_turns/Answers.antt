use Rattle.cpu_step.proofs.QuickTurnLemmas.{no_turns}
use Rattle.cpu_step.proofs.processor.Cpu.quick_turns.Goals as goal

pub returns-then-self-clause-turns : goal.returns-then-self-clause-turns
returns-then-self-clause-turns c = no_turns c.args.self.now c.args.mem.now
