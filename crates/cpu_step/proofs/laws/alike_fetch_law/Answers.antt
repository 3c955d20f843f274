use Rattle.cpu_step.proofs.AlikeFetches.{SameLaws, fetch_same, made_same}
use Rattle.cpu_step.proofs.laws.alike_fetch_law.Goals as goal

pub returns : goal.returns
returns c =
    let laws : SameLaws = record { access = c.access_law.ensures; alike = c.alike_law.ensures } in
    record {
      instruction = λ test control cpl m n rip tlb alike walked pass.
          fetch_same laws test control cpl m n alike walked rip tlb pass;
      made = λ test p m n alike walked pass registers formed.
          made_same laws test p m n alike walked pass registers formed;
    }
