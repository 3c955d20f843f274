use Rattle.cpu_step.proofs.TouchedFrames.{turned_outside}
use Rattle.cpu_step.proofs.processor.Cpu.finish.Goals as goal

pub returns-clause-touched : goal.returns-clause-touched
returns-clause-touched c =
    turned_outside c.memory_law.ensures c.places_law.ensures c.args.effect.now.act c.args.effect.now.write _ _ _ _ _
    c.act.ensures.acted c.put.ensures.memory c.requires.places c.requires.sized
