use Rattle.std.proofs.Common.{◌≡◌, refl, sym, ap, ◌∙◌}
use Rattle.nk_bits.specs.Rules.{rule_of}
use Rattle.phys_mem.specs.MaskedMemory.{seen}
use Rattle.page_desc.specs.DescriptorBytes.{descriptors_in}
use Rattle.region_book.specs.RegionBytes.{book_in}
use Rattle.write_log.specs.LogBytes.{log_in}
use Rattle.nk_body.specs.NestedRecord.{HoldsBooks, OwnState, books_in}
use Rattle.nk_body.specs.declared.call.Call.TheVariants.{WriteEntry}
use Rattle.nk_body.proofs.CallsMade.{held_before, made_as, own_of, on_ok, tables_made, with_ledger}
use Rattle.nk_body.proofs.HeldBooks.{LedgerLaws, tables_form, tables_ledger, unchanged}
use Rattle.nk_body.proofs.BooksLeft.{err_as, own_stands, tables_leave}
use Rattle.nk_body.proofs.RegionsHeld.{err_with}
use Rattle.nk_body.proofs.kernel.Kernel.write_entry.Goals.{in-Err, in-Ok}
use Rattle.nk_body.proofs.kernel.Kernel.write_entry.Goals as goal

pub returns-clause-made : goal.returns-clause-made
returns-clause-made c source =
    let same : rule_of c.match-write_entry.result ≡ rule_of c.write_entry.result =
    elim c.match-write_entry.branch [
      | in-Ok w ↦ ap rule_of w.result-is ∙ sym (ap rule_of w.in-Ok.is)
      | in-Err w ↦ ap rule_of w.result-is ∙ sym (ap rule_of w.in-Err.is)
    ] in
    let before : OwnState = own_of c.self.inside.tables c.self.inside.trap c.self.inside.regions c.self.inside.log in
    let held : HoldsBooks before c.args.mem.now = held_before before c.args.self.now c.args.mem.now c.self.view_is c.requires.books in
    let laws : LedgerLaws = record { regions = c.held_regions_law.ensures; log = c.held_log_law.ensures } in
    let ledger = tables_ledger laws before c.write_entry.new.self c.args.mem.now c.write_entry.new.mem held c.write_entry.ensures.frames c.write_entry.ensures.books
    c.write_entry.ensures.others in
    made_as c.args.mem.now before c.args.self.now (rule_of c.write_entry.result) (rule_of c.match-write_entry.result) c.self.view_is same
    (with_ledger (descriptors_in c.write_entry.new.mem) c.write_entry.new.self.root c.self.inside.trap ledger.book ledger.log
    (tables_made (descriptors_in c.args.mem.now) (descriptors_in c.write_entry.new.mem) c.self.inside.tables.root c.write_entry.new.self.root
    c.self.inside.trap (book_in c.self.inside.regions c.args.mem.now) (log_in c.self.inside.log c.args.mem.now) (seen c.args.mem.now) (seen c.write_entry.new.mem) (WriteEntry c.args.table c.args.index c.args.value) source _ _
    c.write_entry.result
    refl refl held.books
    c.write_entry.ensures.judged
    (unchanged c.self.inside.tables c.write_entry.new.self c.args.mem.now c.write_entry.new.mem c.write_entry.result c.write_entry.ensures.refused)
    (on_ok c.write_entry.result c.write_entry.ensures.kinds)
    (on_ok c.write_entry.result c.write_entry.ensures.root) c.write_entry.ensures.memory c.write_entry.ensures.books.described
    (λ none f is. is)))

pub returns-clause-form : goal.returns-clause-form
returns-clause-form c =
    let before : OwnState = own_of c.self.inside.tables c.self.inside.trap c.self.inside.regions c.self.inside.log in
    let held : HoldsBooks before c.args.mem.now = held_before before c.args.self.now c.args.mem.now c.self.view_is c.requires.books in
    let laws : LedgerLaws = record { regions = c.held_regions_law.ensures; log = c.held_log_law.ensures } in
    tables_form laws before c.write_entry.new.self c.args.mem.now c.write_entry.new.mem held c.write_entry.ensures.frames c.write_entry.ensures.books c.write_entry.ensures.others

pub returns-clause-refused : goal.returns-clause-refused
returns-clause-refused c =
    let same : rule_of c.match-write_entry.result ≡ rule_of c.write_entry.result =
    elim c.match-write_entry.branch [
      | in-Ok w ↦ ap rule_of w.result-is ∙ sym (ap rule_of w.in-Ok.is)
      | in-Err w ↦ ap rule_of w.result-is ∙ sym (ap rule_of w.in-Err.is)
    ] in
    err_as _ c.write_entry.result c.match-write_entry.result same
    (err_with (λ same. (
      own_stands c.self.inside.tables c.write_entry.new.self c.self.inside.trap c.self.inside.regions c.self.inside.regions c.self.inside.log c.self.inside.log
          c.args.self.now c.self.view_is same.0 refl refl,
      same.1,
    )) c.write_entry.result c.write_entry.ensures.refused)

pub returns-clause-leaves : goal.returns-clause-leaves
returns-clause-leaves c =
    tables_leave (books_in c.args.self.now c.args.mem.now).ledger.book (WriteEntry c.args.table c.args.index c.args.value) c.args.mem.now c.write_entry.new.mem refl
    c.write_entry.ensures.others
