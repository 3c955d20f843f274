use Rattle.std.proofs.Common.{◌≡◌, true, sym, subst}
use Rattle.std.specs.Prelude.{IfSome}
use Rattle.region_book.specs.RegionBytes.{book_in}
use Rattle.region_book.specs.RegionCalls.{freed}
use Rattle.region_book.specs.RegionRecords.{IsBook}
use Rattle.region_book.proofs.FreedBook.{freed_named, freed_pooled, freed_sound}
use Rattle.region_book.proofs.KeptSlots.{slots_as_they_were}
use Rattle.region_book.proofs.regions.Regions.free.Goals as goal

pub remove-requires-clause-pooled : goal.remove-requires-clause-pooled
remove-requires-clause-pooled c =
    subst (λ o. IfSome o (λ r. r.pooled ≡ true)) c.in-Ok.ensures.found.1
    (freed_pooled (book_in c.args.self.now c.args.mem.now) c.args.id (sym c.in-Ok.ensures.judged))

pub returns-in-Err-clause-keeps : goal.returns-in-Err-clause-keeps
returns-in-Err-clause-keeps c = slots_as_they_were c.args.self.now c.args.mem.now c.requires.book

pub returns-in-Ok-clause-freed : goal.returns-in-Ok-clause-freed
returns-in-Ok-clause-freed c =
    freed_named (book_in c.args.self.now c.args.mem.now) _ c.args.id (sym c.in-Ok.ensures.judged)
    (subst (λ o. IfSome o (λ r. book_in c.remove.new.self c.remove.new.mem ≡ freed (book_in c.args.self.now c.args.mem.now) r.id))
    (sym c.in-Ok.ensures.found.1) c.remove.ensures.freed)

pub returns-in-Ok-clause-book : goal.returns-in-Ok-clause-book
returns-in-Ok-clause-book c =
    let is : book_in c.remove.new.self c.remove.new.mem ≡ freed (book_in c.args.self.now c.args.mem.now) c.args.id =
    freed_named (book_in c.args.self.now c.args.mem.now) _ c.args.id (sym c.in-Ok.ensures.judged)
    (subst (λ o. IfSome o (λ r. book_in c.remove.new.self c.remove.new.mem ≡ freed (book_in c.args.self.now c.args.mem.now) r.id))
    (sym c.in-Ok.ensures.found.1) c.remove.ensures.freed) in
    subst IsBook (sym is)
    (freed_sound (book_in c.args.self.now c.args.mem.now) c.args.id c.requires.book (sym c.in-Ok.ensures.judged))
