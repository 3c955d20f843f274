use Rattle.std.proofs.Common.{◌≡◌, ◌+◌, arith, subst, sym, ap, ◌∙◌}
use Rattle.phys_mem.specs.Memory.{stored, stores}
use Rattle.region_book.specs.RegionBytes.{slot_place}
use Rattle.region_book.proofs.SlotForms.{IsTailPut, tail_is_put}
use Rattle.region_book.proofs.slots.put_tail.Goals as goal

put : (c : goal.After-store32) → IsTailPut c.args.slot c.args.tail c.args.mem.now c.store32.new.self
put c =
    let stands : c.store32.new.self ≡ stored c.args.mem.now (stores 4 (slot_place c.args.slot + 20) c.args.tail) =
    c.store32.ensures.stored ∙ ap (λ p. stored c.args.mem.now (stores 4 (p + 20) c.args.tail)) c.slot_place.ensures.place in
    subst (IsTailPut c.args.slot c.args.tail c.args.mem.now) (sym stands)
    (tail_is_put c.memory_law.ensures c.args.mem.now c.args.slot c.args.tail c.requires.memory (omega arith) (omega arith))

pub returns-clause-row : goal.returns-clause-row
returns-clause-row c = (put c).row

pub returns-clause-form : goal.returns-clause-form
returns-clause-form c = (put c).form

pub returns-clause-elsewhere : goal.returns-clause-elsewhere
returns-clause-elsewhere c = (put c).elsewhere
