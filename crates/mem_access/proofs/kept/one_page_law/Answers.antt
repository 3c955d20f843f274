use Rattle.std.proofs.Common.{refl, sym}
use Rattle.phys_mem.specs.Memory.{number_at}
use Rattle.mem_access.proofs.Numbers.{whole_value, whole_stores}
use Rattle.mem_access.proofs.Spans.{part_whole}
use Rattle.mem_access.proofs.kept.one_page_law.Goals as goal

pub returns : goal.returns
returns c = record {
  value =
      λ m va width target one. sym (whole_value m va width width target (sym (part_whole va width one)) (number_at m width target.first) refl refl);
  stores = λ va width value target one. whole_stores va width value target (part_whole va width one);
}
