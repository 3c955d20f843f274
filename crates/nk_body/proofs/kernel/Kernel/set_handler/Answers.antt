use Rattle.std.proofs.Common.{List, ℕ, None, refl, sym, ap, subst, ◌∙◌}
use Rattle.phys_mem.specs.MaskedMemory.{seen}
use Rattle.page_desc.specs.DescriptorBytes.{descriptors_in, kinds_in}
use Rattle.page_desc.specs.FrameDescriptors.{Descriptors}
use Rattle.nk_body.specs.CallMade.{IsMade, KeepsForm}
use Rattle.region_book.specs.RegionBytes.{book_in}
use Rattle.write_log.specs.LogBytes.{log_in}
use Rattle.nk_body.specs.NestedRecord.{HoldsBooks, OwnState, books_in}
use Rattle.nk_body.specs.declared.call.Call.TheVariants.{SetHandler}
use Rattle.nk_body.specs.BooksTouched.{LeavesBooks}
use Rattle.nk_body.proofs.BooksLeft.{handler_leaves, leaves_all}
use Rattle.nk_body.proofs.HeldBooks.{HeldLaws, LedgerLaws, StandsLedger, handler_books, handler_described, handler_holds, handler_ledger, handler_seen_after}
use Rattle.nk_body.proofs.CallsMade.{books_of, held_before, made_as, own_of, trap_made, trap_refused, with_ledger}
use Rattle.nk_body.proofs.HandlerStores.{handler_stores}
use Rattle.nk_body.proofs.kernel.Kernel.set_handler.Goals as goal

pub returns-then-not-canonical-clause-made : goal.returns-then-not-canonical-clause-made
returns-then-not-canonical-clause-made c source =
    trap_refused (books_in c.args.self.now c.args.mem.now) (seen c.args.mem.now) c.args.address source
    (sym c.canonical.ensures.value ∙ c.if-not-canonical.true) c.requires.books.books

pub returns-clause-made : goal.returns-clause-made
returns-clause-made c source =
    let a : ℕ = c.args.address in
    let before : OwnState = own_of c.self.inside.tables c.self.inside.trap c.self.inside.regions c.self.inside.log in
    let held : HoldsBooks before c.args.mem.now = held_before before c.args.self.now c.args.mem.now c.self.view_is c.requires.books in
    let m : List ℕ = c.args.mem.now in
    let later : List ℕ = c.store64.new.self in
    let laws : HeldLaws = record { tables = c.held_tables_law.ensures; memory = c.memory_law.ensures } in
    let ledger_laws : LedgerLaws = record { regions = c.held_regions_law.ensures; log = c.held_log_law.ensures } in
    let ledger : StandsLedger before m later =
    subst (StandsLedger before m) (sym c.store64.ensures.stored) (handler_ledger laws ledger_laws before m held a c.memory_law.ensures.places) in
    let described = ap descriptors_in c.store64.ensures.stored ∙ handler_described laws ledger_laws before m held a c.memory_law.ensures.places in
    let sees = ap seen c.store64.ensures.stored ∙ handler_seen_after laws ledger_laws before m held a c.memory_law.ensures.places in
    made_as m before c.args.self.now None None c.self.view_is refl
    (with_ledger (descriptors_in later) before.root a ledger.book ledger.log
    (subst (λ (it : Descriptors × List ℕ). IsMade (books_in before m) (seen m) (SetHandler a) source None
    (books_of it.0 before.root a (book_in before.regions m) (log_in before.log m)) it.1) (λ i. (sym described i, sym sees i))
    (trap_made (books_in before m) (seen m) a source held.books
    (sym c.canonical.ensures.value ∙ c.if-not-canonical.false)
    (c.page_tables_law.ensures.described (descriptors_in m) before.root (seen m) _ held.books.described
    (handler_stores (kinds_in m) a c.memory_law.ensures.places held.books.described.sound.handler)))))

pub returns-clause-form : goal.returns-clause-form
returns-clause-form c =
    let m : List ℕ = c.args.mem.now in
    let before : OwnState = own_of c.self.inside.tables c.self.inside.trap c.self.inside.regions c.self.inside.log in
    let held : HoldsBooks before m = held_before before c.args.self.now m c.self.view_is c.requires.books in
    let laws : HeldLaws = record { tables = c.held_tables_law.ensures; memory = c.memory_law.ensures } in
    let ledger_laws : LedgerLaws = record { regions = c.held_regions_law.ensures; log = c.held_log_law.ensures } in
    let ledger = handler_ledger laws ledger_laws before m held c.args.address c.memory_law.ensures.places in
    subst (KeepsForm (record before { trap = c.args.address })) (sym c.store64.ensures.stored) (record {
      stored = handler_holds laws ledger_laws before m held c.args.address c.memory_law.ensures.places;
      regions = ledger.regions;
      log = ledger.counts;
    })

pub returns-then-not-canonical-clause-leaves : goal.returns-then-not-canonical-clause-leaves
returns-then-not-canonical-clause-leaves c =
    leaves_all (books_in c.args.self.now c.args.mem.now).ledger.book (SetHandler c.args.address) c.args.mem.now c.args.mem.now refl

pub returns-clause-leaves : goal.returns-clause-leaves
returns-clause-leaves c =
    let m : List ℕ = c.args.mem.now in
    let before : OwnState = own_of c.self.inside.tables c.self.inside.trap c.self.inside.regions c.self.inside.log in
    let held : HoldsBooks before m = held_before before c.args.self.now m c.self.view_is c.requires.books in
    let laws : HeldLaws = record { tables = c.held_tables_law.ensures; memory = c.memory_law.ensures } in
    let ledger_laws : LedgerLaws = record { regions = c.held_regions_law.ensures; log = c.held_log_law.ensures } in
    subst (LeavesBooks (books_in c.args.self.now c.args.mem.now).ledger.book (SetHandler c.args.address) m) (sym c.store64.ensures.stored)
    (handler_leaves (books_in c.args.self.now c.args.mem.now).ledger.book (SetHandler c.args.address) m _ before held
    (handler_books laws ledger_laws before m held c.args.address c.memory_law.ensures.places))
