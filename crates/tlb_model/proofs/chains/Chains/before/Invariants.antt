use Rattle.std.proofs.Common.{◌≡◌, ◌<◌, ◌-◌, true}
use Rattle.tlb_model.specs.SlotBuckets.{is_member}
use Rattle.tlb_model.proofs.chains.Chains.before.Given as goal

abbrev pub invariant-loop-before : goal.invariant-loop-before
invariant-loop-before l = record { member : is_member l.generation l.slots l.bucket l.before ≡ true; below : l.before < l.at }

abbrev pub decreases-loop-before : goal.decreases-loop-before
decreases-loop-before l = 1024 - l.before
