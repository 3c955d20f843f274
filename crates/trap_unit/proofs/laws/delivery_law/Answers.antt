use Rattle.trap_unit.proofs.DeliveryLaws.{delivered_leaves, delivered_length}
use Rattle.trap_unit.proofs.StoresMade.{delivered_stored}
use Rattle.trap_unit.proofs.laws.delivery_law.Goals as goal

pub returns : goal.returns
returns c = record {
  supervisor = λ regs control tables vector code m tlb. (delivered_leaves regs control tables vector code m tlb).0;
  shut = λ regs control tables vector code m tlb. (delivered_leaves regs control tables vector code m tlb).1;
  stores = delivered_stored c.memory_law.ensures;
  length = delivered_length c.memory_law.ensures;
}
