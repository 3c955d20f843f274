use Rattle.std.proofs.Common.{◌≡◌, ◌≢◌, ◌<◌, ◌≤◌, ◌-◌, ◌%◌, ℕ, true}
use Rattle.tlb_model.specs.SlotBuckets.{is_kept, is_member, slot_at}
use Rattle.tlb_model.proofs.chains.Chains.find.Given as goal

abbrev pub invariant-loop-at : goal.invariant-loop-at
invariant-loop-at l = record {
  most : l.at ≤ 1024;
  member : l.at < 1024 → is_member l.generation l.slots (l.page % 1024) l.at ≡ true;
  before : (k : ℕ) → k < l.at → is_kept l.generation (slot_at l.slots k) ≡ true → (slot_at l.slots k).page ≢ l.page;
}

abbrev pub decreases-loop-at : goal.decreases-loop-at
decreases-loop-at l = 1024 - l.at
