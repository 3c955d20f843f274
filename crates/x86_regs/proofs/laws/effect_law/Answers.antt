use Rattle.x86_regs.proofs.EffectLaws.{keeps_privilege, loads_a_frame, leaves_to_delivery}
use Rattle.x86_regs.proofs.laws.effect_law.Goals as goal

pub returns : goal.returns
returns c = record {
  privilege = keeps_privilege;
  root = loads_a_frame;
  moved = leaves_to_delivery;
}
