use Rattle.std.proofs.Common.{◌∙◌, ap, refl, subst}
use Rattle.cpu_step.specs.Processor.{Processor}
use Rattle.cpu_step.specs.QuickTurns.{AreQuickTurns}
use Rattle.cpu_step.proofs.processor.Cpu.turns_by.Goals as goal

pub returns-clause-turns : goal.returns-clause-turns
returns-clause-turns c =
    let p : Processor = record {
      regs = c.self.inside.regs;
      control = c.self.inside.control;
      tables = c.self.inside.tables;
      tlb = c.self.inside.tlb;
      input = c.self.inside.ports;
      pending = c.self.inside.pending;
      shielded = c.self.inside.shielded;
      halted = c.self.inside.halted;
    } in
    subst (λ (x : Processor). AreQuickTurns c.turns.result x c.args.mem.now (record p { regs = c.turns.new.regs }) c.turns.new.mem) c.self.view_is
    (c.turns.ensures.made.turns p (record {
      regs = refl;
      control = refl;
      tlb = refl;
      runs = ap (λ (x : Processor). x.halted) c.self.view_is ∙ c.requires.runs;
      open_to = ap (λ (x : Processor). x.shielded) c.self.view_is ∙ c.requires.shielded;
      none = ap (λ (x : Processor). x.pending) c.self.view_is ∙ c.requires.pending;
    }))
