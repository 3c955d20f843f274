use Rattle.std.proofs.Common.{◌≡◌, true, refl, sym, ap, ◌∙◌, subst}
use Rattle.std.specs.Prelude.{IfSome}
use Rattle.std.specs.List.{remove}
use Rattle.region_book.specs.RegionBytes.{HoldsRegions, KeepsSlots, RegionIndex, book_in, row_in}
use Rattle.region_book.specs.RegionCalls.{freed}
use Rattle.region_book.specs.RegionRows.{IsHeld}
use Rattle.region_book.proofs.PlaceFound.{by_name, located_here, region_here}
use Rattle.region_book.proofs.RemovedSlot.{freed_now, held_freed, slots_freed}
use Rattle.region_book.proofs.SlotFound.{row_held}
use Rattle.region_book.proofs.regions.Regions.remove.Goals as goal

pub first_bit-requires : goal.first_bit-requires
first_bit-requires c = record {
  held = subst (IsHeld 128) (sym c.row_at-row.ensures)
      (row_held c.args.self.now c.args.mem.now c.requires.held c.args.i c.slot_at-slot.result
      c.requires.number c.slot_at-slot.ensures);
}

pub returns-clause-freed : goal.returns-clause-freed
returns-clause-freed c =
    let located = located_here c.args.self.now c.args.mem.now c.args.i c.slot_at-slot.result c.requires.number c.slot_at-slot.ensures c.requires.book in
    subst (λ o. IfSome o (λ r. book_in (record { slots = c.remove.new.self; next = c.self.inside.next; declared = c.self.inside.declared }) c.clear_slot.new.mem ≡ freed (book_in c.args.self.now c.args.mem.now) r.id))
    (sym (region_here c.args.self.now c.args.mem.now c.args.self.now.slots refl c.args.i c.slot_at-slot.result _ c.requires.number c.slot_at-slot.ensures refl))
    (ap (λ (index : RegionIndex). book_in (record index { slots = c.remove.new.self }) c.clear_slot.new.mem) c.self.view_is
    ∙ freed_now c.args.self.now c.args.mem.now c.clear_run.new.mem c.clear_slot.new.mem c.requires.held c.requires.book
    c.args.i c.slot_at-slot.result (row_in c.args.mem.now c.slot_at-slot.result).id c.requires.number c.slot_at-slot.ensures
    located c.row_at-row.result c.row_at-row.ensures c.first_bit.result c.first_bit.ensures.first
    c.clear_run.ensures.elsewhere c.clear_run.ensures.each c.clear_slot.ensures.elsewhere c.remove.new.self
    (c.remove.ensures.removed ∙ ap (λ (index : RegionIndex). remove index.slots c.args.i) c.self.view_is))

pub returns-clause-held : goal.returns-clause-held
returns-clause-held c =
    let located = located_here c.args.self.now c.args.mem.now c.args.i c.slot_at-slot.result c.requires.number c.slot_at-slot.ensures c.requires.book in
    subst (λ (index : RegionIndex). HoldsRegions (record index { slots = c.remove.new.self }) c.clear_slot.new.mem)
    (sym c.self.view_is)
    (held_freed c.args.self.now c.args.mem.now c.clear_run.new.mem c.clear_slot.new.mem c.requires.held c.requires.book
    c.args.i c.slot_at-slot.result (row_in c.args.mem.now c.slot_at-slot.result).id c.requires.number c.slot_at-slot.ensures
    located c.row_at-row.result c.row_at-row.ensures c.first_bit.result c.first_bit.ensures.first
    c.clear_run.ensures.elsewhere c.clear_run.ensures.each c.clear_slot.ensures.elsewhere c.remove.new.self
    (c.remove.ensures.removed ∙ ap (λ (index : RegionIndex). remove index.slots c.args.i) c.self.view_is)
    (by_name c.args.self.now c.args.mem.now c.args.i c.slot_at-slot.result c.requires.number c.slot_at-slot.ensures c.requires.book
    (λ r. r.pooled ≡ true) c.requires.pooled) c.clear_slot.ensures.zero)

pub returns-clause-keeps : goal.returns-clause-keeps
returns-clause-keeps c =
    let located = located_here c.args.self.now c.args.mem.now c.args.i c.slot_at-slot.result c.requires.number c.slot_at-slot.ensures c.requires.book in
    subst (λ (index : RegionIndex). KeepsSlots c.args.self.now c.args.mem.now (record index { slots = c.remove.new.self }) c.clear_slot.new.mem)
    (sym c.self.view_is)
    (slots_freed c.args.self.now c.args.mem.now c.clear_run.new.mem c.clear_slot.new.mem c.requires.held c.requires.book
    c.args.i c.slot_at-slot.result (row_in c.args.mem.now c.slot_at-slot.result).id c.requires.number c.slot_at-slot.ensures
    located c.row_at-row.result c.row_at-row.ensures c.first_bit.result c.first_bit.ensures.first
    c.clear_run.ensures.elsewhere c.clear_run.ensures.each c.clear_slot.ensures.elsewhere c.remove.new.self
    (c.remove.ensures.removed ∙ ap (λ (index : RegionIndex). remove index.slots c.args.i) c.self.view_is))
