use Rattle.x86_decode.specs.declared.entry.TheConstants.{GROUPS}
use Rattle.x86_decode.specs.declared.entry.Slot.TheVariants.{Empty}
use Rattle.x86_decode.specs.Grid.{slots_from}
use Rattle.x86_decode.proofs.Slots.{slot_at, slot_past}
use Rattle.x86_decode.proofs.choice.slot.Goals as goal

pub returns-then-at-lt208 : goal.returns-then-at-lt208
unfolding slots_from
returns-then-at-lt208 c = slot_at GROUPS c.args.first c.args.place Empty c.requires

pub returns-else-at-lt208 : goal.returns-else-at-lt208
unfolding slots_from
returns-else-at-lt208 c = slot_past GROUPS c.args.first c.args.place Empty c.requires c.if-at-lt208.false
