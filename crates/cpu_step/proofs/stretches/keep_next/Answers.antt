use Rattle.std.proofs.Common.{◌≡◌, ◌+◌, ◌%◌, ◌≤◌, rules, length, arith, subst, sym}
use Rattle.x86_regs.specs.declared.registers.Regs.{Regs}
use Rattle.cpu_step.specs.declared.kept_code.KeptCode.{KeptCode}
use Rattle.cpu_step.specs.CodeLines.{code_number}
use Rattle.cpu_step.specs.KeptFetches.{IsKeptCode}
use Rattle.cpu_step.proofs.CodePages.{other_stretch}
use Rattle.cpu_step.proofs.stretches.keep_next.Goals as goal

pub is_in-requires : goal.is_in-requires
is_in-requires c =
    let code : KeptCode = c.code_for.result.now in
    record {
      page = subst (λ (x : KeptCode). x.start % 4096 + x.last ≤ 4080) (sym (c.code_for.ensures code))
          (c.requires.stretch.kept (code_number c.rip-rip.result) code (omega (arith, c.requires.stretch.count))).page;
    }

pub returns-in-Some-clause-stretch : goal.returns-in-Some-clause-stretch
returns-in-Some-clause-stretch c =
    let size = length c.args.mem.now in
    other_stretch size c.args.control.now c.args.regs.now.cpl c.args.tlb.now c.in-Some.code c.code_slot-slot.result c.args.codes.now c.args.window.now c.keep_off.new.self
    c.code_slot-slot.ensures.few
    (subst (λ (r : Regs). IsKeptCode size c.args.control.now r.cpl c.args.tlb.now c.in-Some.code) c.regs.ensures c.in-Some.ensures.kept) c.requires.stretch
    (c.keep_off.ensures.window size c.args.control.now c.args.regs.now.cpl c.args.tlb.now c.requires.stretch.windowed)
    (search (rules, c.keep_off.ensures.off, c.place_of.ensures)) c.keep_off.ensures.others
