use Rattle.x86_alu.proofs.FlagBits.{flag_same, flag_other}
use Rattle.x86_alu.proofs.flags.flag_law.Goals as goal

pub returns : goal.returns
returns c = record {
  same = flag_same;
  others = flag_other;
}
