use Rattle.trap_unit.proofs.AlikeReads.{ReadLaws, allowed_same, entry_same}
use Rattle.trap_unit.proofs.laws.alike_reads_law.Goals as goal

pub returns : goal.returns
returns c =
    let laws : ReadLaws = record { access = c.access_law.ensures; alike = c.alike_law.ensures } in
    record {
      entry = λ test control tables vector m n tlb alike walked pass.
          entry_same laws test control tables m n alike walked vector tlb pass;
      allowed = λ test control tables cpl vector m n tlb alike walked pass.
          allowed_same laws test control tables m n alike walked vector cpl tlb pass;
    }
