use Rattle.boot_map.proofs.OpeningLaws.{fixed_kinds, kinds_each, kinds_length, root_kind}
use Rattle.boot_map.proofs.SlotLeaves.{trap_kind}
use Rattle.boot_map.proofs.laws.opening_kinds_law.Goals as goal

pub returns : goal.returns
returns c = record {
  fixed = fixed_kinds;
  trap = trap_kind;
  root = root_kind;
  count = kinds_length;
  each = kinds_each;
}
