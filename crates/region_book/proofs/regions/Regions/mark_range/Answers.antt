use Rattle.std.proofs.Common.{◌≡◌, ◌+◌, ◌≤◌, arith, sym, ap, subst}
use Rattle.std.specs.Prelude.{IfSome}
use Rattle.region_book.specs.declared.row.Row.{Row}
use Rattle.region_book.specs.RegionBytes.{book_in, row_in}
use Rattle.region_book.specs.RegionRecords.{marked, region_of, with_region}
use Rattle.region_book.specs.RegionRows.{IsHeld}
use Rattle.region_book.proofs.MarkedSlot.{book_now, held_now, marked_now, slots_now}
use Rattle.region_book.proofs.PlaceFound.{by_name, by_place, located_here}
use Rattle.region_book.proofs.SlotFound.{range_in, row_held}
use Rattle.region_book.proofs.regions.Regions.mark_range.Goals as goal

pub first_bit-requires : goal.first_bit-requires
first_bit-requires c = record {
  held = subst (IsHeld 128) (sym c.row_at-row.ensures)
      (row_held c.args.self.now c.args.mem.now c.requires.held c.args.i c.slot_at-slot.result
      c.requires.number c.slot_at-slot.ensures);
}

pub overflow_add-first_bit : goal.overflow_add-first_bit
overflow_add-first_bit c =
    let index = c.args.self.now in
    let m = c.args.mem.now in
    let s = c.slot_at-slot.result in
    let located = located_here index m c.args.i s c.requires.number c.slot_at-slot.ensures c.requires.book in
    let fits : IfSome (region_of (book_in index m) (row_in m s).id) (λ r. c.args.offset + c.args.count ≤ r.size) =
    by_name index m c.args.i s c.requires.number c.slot_at-slot.ensures c.requires.book
    (λ r. c.args.offset + c.args.count ≤ r.size) c.requires.within in
    omega (
      arith,
      range_in index m c.requires.held c.args.i s c.requires.number c.slot_at-slot.ensures (row_in m s).id located
          c.args.offset c.args.count fits,
      ap (λ (row : Row). row.size) c.row_at-row.ensures,
    )

pub set_run-requires-clause-within : goal.set_run-requires-clause-within
set_run-requires-clause-within c =
    let index = c.args.self.now in
    let m = c.args.mem.now in
    let s = c.slot_at-slot.result in
    let located = located_here index m c.args.i s c.requires.number c.slot_at-slot.ensures c.requires.book in
    let fits : IfSome (region_of (book_in index m) (row_in m s).id) (λ r. c.args.offset + c.args.count ≤ r.size) =
    by_name index m c.args.i s c.requires.number c.slot_at-slot.ensures c.requires.book
    (λ r. c.args.offset + c.args.count ≤ r.size) c.requires.within in
    omega (
      arith,
      range_in index m c.requires.held c.args.i s c.requires.number c.slot_at-slot.ensures (row_in m s).id located
          c.args.offset c.args.count fits,
      ap (λ (row : Row). row.size) c.row_at-row.ensures,
    )

pub overflow_add-offset : goal.overflow_add-offset
overflow_add-offset c =
    let index = c.args.self.now in
    let m = c.args.mem.now in
    let s = c.slot_at-slot.result in
    let located = located_here index m c.args.i s c.requires.number c.slot_at-slot.ensures c.requires.book in
    let fits : IfSome (region_of (book_in index m) (row_in m s).id) (λ r. c.args.offset + c.args.count ≤ r.size) =
    by_name index m c.args.i s c.requires.number c.slot_at-slot.ensures c.requires.book
    (λ r. c.args.offset + c.args.count ≤ r.size) c.requires.within in
    omega (
      arith,
      range_in index m c.requires.held c.args.i s c.requires.number c.slot_at-slot.ensures (row_in m s).id located
          c.args.offset c.args.count fits,
      ap (λ (row : Row). row.size) c.row_at-row.ensures,
    )

pub returns-clause-marked : goal.returns-clause-marked
returns-clause-marked c =
    let index = c.args.self.now in
    let m = c.args.mem.now in
    let s = c.slot_at-slot.result in
    let located = located_here index m c.args.i s c.requires.number c.slot_at-slot.ensures c.requires.book in
    let fits : IfSome (region_of (book_in index m) (row_in m s).id) (λ r. c.args.offset + c.args.count ≤ r.size) =
    by_name index m c.args.i s c.requires.number c.slot_at-slot.ensures c.requires.book
    (λ r. c.args.offset + c.args.count ≤ r.size) c.requires.within in
    by_place index m c.args.i s c.requires.number c.slot_at-slot.ensures c.requires.book
    (λ r. book_in index c.move_tail.new.mem ≡ with_region (book_in index m) (marked r c.args.offset c.args.count))
    (marked_now index m c.set_run.new.mem c.move_tail.new.mem c.requires.held c.args.i s (row_in m s).id c.requires.number
    c.slot_at-slot.ensures located c.row_at-row.result c.row_at-row.ensures c.first_bit.result c.first_bit.ensures.first
    c.args.offset c.args.count fits c.set_run.ensures.elsewhere c.set_run.ensures.each c.move_tail.ensures.elsewhere
    c.move_tail.ensures.row c.requires.book)

pub returns-clause-held : goal.returns-clause-held
returns-clause-held c =
    let index = c.args.self.now in
    let m = c.args.mem.now in
    let s = c.slot_at-slot.result in
    let located = located_here index m c.args.i s c.requires.number c.slot_at-slot.ensures c.requires.book in
    let fits : IfSome (region_of (book_in index m) (row_in m s).id) (λ r. c.args.offset + c.args.count ≤ r.size) =
    by_name index m c.args.i s c.requires.number c.slot_at-slot.ensures c.requires.book
    (λ r. c.args.offset + c.args.count ≤ r.size) c.requires.within in
    held_now index m c.set_run.new.mem c.move_tail.new.mem c.requires.held c.args.i s (row_in m s).id c.requires.number
    c.slot_at-slot.ensures located c.row_at-row.result c.row_at-row.ensures c.first_bit.result c.first_bit.ensures.first
    c.args.offset c.args.count fits c.set_run.ensures.elsewhere c.set_run.ensures.each c.move_tail.ensures.elsewhere
    c.move_tail.ensures.row c.move_tail.ensures.form

pub returns-clause-keeps : goal.returns-clause-keeps
returns-clause-keeps c =
    let index = c.args.self.now in
    let m = c.args.mem.now in
    let s = c.slot_at-slot.result in
    let located = located_here index m c.args.i s c.requires.number c.slot_at-slot.ensures c.requires.book in
    let fits : IfSome (region_of (book_in index m) (row_in m s).id) (λ r. c.args.offset + c.args.count ≤ r.size) =
    by_name index m c.args.i s c.requires.number c.slot_at-slot.ensures c.requires.book
    (λ r. c.args.offset + c.args.count ≤ r.size) c.requires.within in
    slots_now index m c.set_run.new.mem c.move_tail.new.mem c.requires.held c.args.i s (row_in m s).id c.requires.number
    c.slot_at-slot.ensures located c.row_at-row.result c.row_at-row.ensures c.first_bit.result c.first_bit.ensures.first
    c.args.offset c.args.count fits c.set_run.ensures.elsewhere c.set_run.ensures.each c.move_tail.ensures.elsewhere
    c.move_tail.ensures.row c.requires.book

pub returns-clause-book : goal.returns-clause-book
returns-clause-book c =
    let index = c.args.self.now in
    let m = c.args.mem.now in
    let s = c.slot_at-slot.result in
    let located = located_here index m c.args.i s c.requires.number c.slot_at-slot.ensures c.requires.book in
    let fits : IfSome (region_of (book_in index m) (row_in m s).id) (λ r. c.args.offset + c.args.count ≤ r.size) =
    by_name index m c.args.i s c.requires.number c.slot_at-slot.ensures c.requires.book
    (λ r. c.args.offset + c.args.count ≤ r.size) c.requires.within in
    book_now index m c.set_run.new.mem c.move_tail.new.mem c.requires.held c.args.i s (row_in m s).id c.requires.number
    c.slot_at-slot.ensures located c.row_at-row.result c.row_at-row.ensures c.first_bit.result c.first_bit.ensures.first
    c.args.offset c.args.count fits c.set_run.ensures.elsewhere c.set_run.ensures.each c.move_tail.ensures.elsewhere
    c.move_tail.ensures.row c.requires.book
