use Rattle.std.proofs.Common.{ℕ, None, ap, ◌∙◌}
use Rattle.nk_bits.specs.Outcomes.{answered}
use Rattle.x86_regs.specs.declared.faults.Fault.{Fault}
use Rattle.x86_regs.specs.declared.form.Form.TheVariants.{Flow}
use Rattle.exec_flow.proofs.ActsAlone.{unrefused}
use Rattle.exec_flow.proofs.sole_acts.sole_act.Goals as goal

pub returns-in-Some-clause-made : goal.returns-in-Some-clause-made
returns-in-Some-clause-made c =
    unrefused (Flow c.args.form) c.args.instr.now c.args.size c.args.regs.now c.args.control.now c.args.mem.now c.args.tlb.now _
    c.requires.form (c.is_unrefused.ensures c.if-is_unrefused.true)
    (ap (λ (rip : ℕ). answered {F = Fault} (record { regs = record c.args.regs.now { rip = rip }; write = None; act = c.in-Some.act }) c.args.tlb.now) c.next_of-regs.ensures
    ∙ c.in-Some.ensures)
