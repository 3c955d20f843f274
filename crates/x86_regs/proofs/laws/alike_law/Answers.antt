use Rattle.x86_regs.proofs.AlikeAccesses.{SameLaws, accessed_same, fetched_same, loaded_same}
use Rattle.x86_regs.proofs.AlikeEffects.{effect_same}
use Rattle.x86_regs.proofs.laws.alike_law.Goals as goal

pub returns : goal.returns
returns c =
    let laws : SameLaws = record { keeping = record { access = c.access_law.ensures; kept = c.kept_law.ensures }; span = c.span_law.ensures } in
    record {
      accessed = λ test control cpl m n access tlb va width alike walked pass fits some.
          accessed_same laws test control cpl m n alike walked access tlb va width fits some pass;
      loaded = λ test control cpl m n tlb va width alike walked pass fits sized.
          loaded_same laws test control cpl m n alike walked tlb va width fits sized pass;
      fetched = λ test control cpl m n tlb va alike walked pass fits.
          fetched_same laws test control cpl m n alike walked tlb va fits pass;
      effect = λ i size regs control m n tlb test alike walked pass formed registers.
          effect_same laws test control regs m n alike walked i size formed registers tlb pass;
    }
