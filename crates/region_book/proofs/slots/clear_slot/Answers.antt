use Rattle.std.proofs.Common.{◌≡◌, ℕ, ◌+◌, ◌*◌, ◌<◌, arith, subst, sym}
use Rattle.phys_mem.specs.Memory.{byte_at, stored, stores}
use Rattle.region_book.specs.SlotChanges.{DiffersWithin}
use Rattle.region_book.proofs.SlotStores.{differs_more, differs_wider, one_differs, zero_more}
use Rattle.region_book.proofs.slots.clear_slot.Goals as goal

pub loop-i-preserved : goal.loop-i-preserved
loop-i-preserved c =
    let place = c.slot_place-place.result in
    let i = c.loop-i.i in
    let after = stored c.loop-i.mem (stores 8 (place + 8 * i) 0) in
    record {
      zero = subst (λ n. (p : ℕ) → p < 8 * (i + 1) → byte_at n (place + p) ≡ 0) (sym c.store64.ensures.stored)
          (zero_more c.memory_law.ensures place i c.loop-i.mem
          (omega (arith, c.slot_place-place.ensures.within, c.requires, c.loop-i.invariant.differs.size))
          c.loop-i.invariant.zero);
      differs = differs_more place (place + 64) c.args.mem.now c.loop-i.mem c.store64.new.self c.loop-i.invariant.differs
          (subst (DiffersWithin place (place + 64) c.loop-i.mem) (sym c.store64.ensures.stored)
          (differs_wider (place + 8 * i) (place + 8 * i + 8) place (place + 64) c.loop-i.mem after (omega arith) (omega arith)
          (one_differs c.memory_law.ensures c.loop-i.mem 8 (place + 8 * i) 0)));
    }
