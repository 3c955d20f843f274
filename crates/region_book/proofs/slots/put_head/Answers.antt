use Rattle.std.proofs.Common.{◌≡◌, ◌+◌, arith, subst, sym}
use Rattle.region_book.specs.SlotChanges.{DiffersWithin, Holds, head_of}
use Rattle.region_book.proofs.SlotForms.{bool_fits, head_between}
use Rattle.region_book.proofs.SlotStores.{HaveRoom, laid, laid_differs, laid_holds}
use Rattle.region_book.proofs.slots.put_head.Goals as goal

stands : (c : goal.After-store32-3) → c.store32-3.new.self ≡ laid c.args.mem.now (head_of c.args.place c.args.row.now)
stands c = grind (arith)

room : (c : goal.After-store32-3) → HaveRoom (head_of c.args.place c.args.row.now)
room c =
    let fits = c.numbers_law.ensures in
    (omega (arith, fits.id), (omega (arith, fits.first), (omega (arith, fits.size), (omega (arith, fits.tail), (omega (arith, fits.policy), (bool_fits c.args.row.now.pooled, (omega arith, (omega arith, tt))))))))

pub returns-clause-holds : goal.returns-clause-holds
returns-clause-holds c =
    subst (λ m. Holds m (head_of c.args.place c.args.row.now)) (sym (stands c))
    (laid_holds c.memory_law.ensures c.args.mem.now c.args.place (c.args.place + 32) (head_of c.args.place c.args.row.now)
    (head_between c.args.place c.args.row.now) (room c) (omega arith))

pub returns-clause-differs : goal.returns-clause-differs
returns-clause-differs c =
    subst (DiffersWithin c.args.place (c.args.place + 32) c.args.mem.now) (sym (stands c))
    (laid_differs c.memory_law.ensures c.args.mem.now c.args.place (c.args.place + 32) (head_of c.args.place c.args.row.now)
    (head_between c.args.place c.args.row.now))
