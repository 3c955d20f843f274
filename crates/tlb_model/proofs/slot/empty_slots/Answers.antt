use Rattle.tlb_model.proofs.Empty.{slot_at_none}
use Rattle.tlb_model.proofs.slot.empty_slots.Goals as goal

pub returns : goal.returns
returns c = slot_at_none 1024
