use Rattle.x86_regs.proofs.CalmActs.{loads_nothing, takes_cpl_0}
use Rattle.x86_regs.proofs.GrantedAccesses.{KeepingLaws}
use Rattle.x86_regs.proofs.GrantedEffects.{is_granted, keeps_translations}
use Rattle.x86_regs.proofs.KeptRegisters.{keeps_registers}
use Rattle.x86_regs.proofs.laws.grant_law.Goals as goal

pub returns : goal.returns
returns c =
    let laws : KeepingLaws = record { access = c.access_law.ensures; kept = c.kept_law.ensures } in
    record {
      registers = keeps_registers;
      calm = loads_nothing;
      supervisor = takes_cpl_0;
      translations = keeps_translations laws;
      granted = is_granted laws;
    }
