use Rattle.std.proofs.Common.{rules, ◌≡◌, ◌%◌, ◌<◌, length, slice_index_or, sym, ap, ◌∙◌}
use Rattle.std.proofs.lemmas.List.{get_or_default}
use Rattle.tlb_model.specs.declared.slot.Slot.{Slot}
use Rattle.tlb_model.specs.SlotBuckets.{empty_slot, is_kept, slot_at}
use Rattle.tlb_model.proofs.Looks.{look_kept}
use Rattle.tlb_model.proofs.table.Table.look.Goals as goal

pub returns-then-is_kept : goal.returns-then-is_kept
returns-then-is_kept c = record {
  found =
      let past : Slot = record empty_slot { place = 0 } in
      let within : c.args.page % 1024 < length c.args.self.now.slots = search rules in
      let same : slice_index_or c.args.self.now.slots (c.args.page % 1024) past ≡ slot_at c.args.self.now.slots (c.args.page % 1024) =
      get_or_default c.args.self.now.slots (c.args.page % 1024) past empty_slot within in
      look_kept c.args.self.now (c.args.page % 1024) c.args.page past c.requires.table
      (sym (ap (is_kept c.args.self.now.generation) same) ∙ sym c.is_kept.ensures ∙ c.if-is_kept.true)
      (sym (ap (λ (slot : Slot). slot.page) same) ∙ c.if-own-page.true);
}
