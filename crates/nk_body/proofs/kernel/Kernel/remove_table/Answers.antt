use Rattle.std.proofs.Common.{◌≡◌, refl, sym, ap, ◌∙◌}
use Rattle.nk_bits.specs.Rules.{rule_of}
use Rattle.phys_mem.specs.MaskedMemory.{seen}
use Rattle.page_desc.specs.DescriptorBytes.{descriptors_in}
use Rattle.region_book.specs.RegionBytes.{book_in}
use Rattle.write_log.specs.LogBytes.{log_in}
use Rattle.nk_body.specs.NestedRecord.{HoldsBooks, OwnState, books_in}
use Rattle.nk_body.proofs.GuardedStays.{removed_stays}
use Rattle.nk_body.specs.declared.call.Call.TheVariants.{RemoveTable}
use Rattle.nk_body.proofs.CallsMade.{held_before, made_as, own_of, on_ok, tables_made, with_ledger}
use Rattle.nk_body.proofs.HeldBooks.{LedgerLaws, tables_form, tables_ledger, unchanged}
use Rattle.nk_body.proofs.BooksLeft.{err_as, own_stands, tables_leave}
use Rattle.nk_body.proofs.RegionsHeld.{err_with}
use Rattle.nk_body.proofs.kernel.Kernel.remove_table.Goals.{in-Err, in-Ok}
use Rattle.nk_body.proofs.kernel.Kernel.remove_table.Goals as goal

pub returns-clause-made : goal.returns-clause-made
returns-clause-made c source =
    let same : rule_of c.match-remove_table.result ≡ rule_of c.remove_table.result =
    elim c.match-remove_table.branch [
      | in-Ok w ↦ ap rule_of w.result-is ∙ sym (ap rule_of w.in-Ok.is)
      | in-Err w ↦ ap rule_of w.result-is ∙ sym (ap rule_of w.in-Err.is)
    ] in
    let before : OwnState = own_of c.self.inside.tables c.self.inside.trap c.self.inside.regions c.self.inside.log in
    let held : HoldsBooks before c.args.mem.now = held_before before c.args.self.now c.args.mem.now c.self.view_is c.requires.books in
    let laws : LedgerLaws = record { regions = c.held_regions_law.ensures; log = c.held_log_law.ensures } in
    let ledger = tables_ledger laws before c.remove_table.new.self c.args.mem.now c.remove_table.new.mem held c.remove_table.ensures.frames c.remove_table.ensures.books
    c.remove_table.ensures.others in
    made_as c.args.mem.now before c.args.self.now (rule_of c.remove_table.result) (rule_of c.match-remove_table.result) c.self.view_is same
    (with_ledger (descriptors_in c.remove_table.new.mem) c.remove_table.new.self.root c.self.inside.trap ledger.book ledger.log
    (tables_made (descriptors_in c.args.mem.now) (descriptors_in c.remove_table.new.mem) c.self.inside.tables.root c.remove_table.new.self.root
    c.self.inside.trap (book_in c.self.inside.regions c.args.mem.now) (log_in c.self.inside.log c.args.mem.now) (seen c.args.mem.now) (seen c.remove_table.new.mem) (RemoveTable c.args.frame) source _ _
    c.remove_table.result
    refl refl held.books
    c.remove_table.ensures.judged
    (unchanged c.self.inside.tables c.remove_table.new.self c.args.mem.now c.remove_table.new.mem c.remove_table.result c.remove_table.ensures.refused)
    c.remove_table.ensures.kinds (on_ok c.remove_table.result c.remove_table.ensures.root)
    c.remove_table.ensures.memory c.remove_table.ensures.books.described
    (λ none. removed_stays c.accepted_law.ensures.removed _ c.args.frame none)))

pub returns-clause-form : goal.returns-clause-form
returns-clause-form c =
    let before : OwnState = own_of c.self.inside.tables c.self.inside.trap c.self.inside.regions c.self.inside.log in
    let held : HoldsBooks before c.args.mem.now = held_before before c.args.self.now c.args.mem.now c.self.view_is c.requires.books in
    let laws : LedgerLaws = record { regions = c.held_regions_law.ensures; log = c.held_log_law.ensures } in
    tables_form laws before c.remove_table.new.self c.args.mem.now c.remove_table.new.mem held c.remove_table.ensures.frames c.remove_table.ensures.books c.remove_table.ensures.others

pub returns-clause-refused : goal.returns-clause-refused
returns-clause-refused c =
    let same : rule_of c.match-remove_table.result ≡ rule_of c.remove_table.result =
    elim c.match-remove_table.branch [
      | in-Ok w ↦ ap rule_of w.result-is ∙ sym (ap rule_of w.in-Ok.is)
      | in-Err w ↦ ap rule_of w.result-is ∙ sym (ap rule_of w.in-Err.is)
    ] in
    err_as _ c.remove_table.result c.match-remove_table.result same
    (err_with (λ same. (
      own_stands c.self.inside.tables c.remove_table.new.self c.self.inside.trap c.self.inside.regions c.self.inside.regions c.self.inside.log c.self.inside.log
          c.args.self.now c.self.view_is same.0 refl refl,
      same.1,
    )) c.remove_table.result c.remove_table.ensures.refused)

pub returns-clause-leaves : goal.returns-clause-leaves
returns-clause-leaves c =
    tables_leave (books_in c.args.self.now c.args.mem.now).ledger.book (RemoveTable c.args.frame) c.args.mem.now c.remove_table.new.mem refl
    c.remove_table.ensures.others
