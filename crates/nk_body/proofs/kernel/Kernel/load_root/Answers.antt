use Rattle.std.proofs.Common.{◌≡◌, refl, sym, ap, ◌∙◌}
use Rattle.nk_bits.specs.Rules.{rule_of}
use Rattle.phys_mem.specs.MaskedMemory.{seen}
use Rattle.page_desc.specs.DescriptorBytes.{descriptors_in}
use Rattle.vmmu.specs.declared.tables.Tables4.{Tables4}
use Rattle.region_book.specs.RegionBytes.{book_in}
use Rattle.write_log.specs.LogBytes.{log_in}
use Rattle.nk_body.specs.NestedRecord.{HoldsBooks, OwnState, books_in}
use Rattle.nk_body.specs.declared.call.Call.TheVariants.{LoadRoot}
use Rattle.nk_body.proofs.CallsMade.{held_before, made_as, own_of, on_ok, tables_made}
use Rattle.nk_body.proofs.RegionsHeld.{err_with}
use Rattle.nk_body.proofs.BooksLeft.{err_as, leaves_all, own_stands}
use Rattle.nk_body.proofs.kernel.Kernel.load_root.Goals.{in-Err, in-Ok}
use Rattle.nk_body.proofs.kernel.Kernel.load_root.Goals as goal

pub returns-clause-made : goal.returns-clause-made
returns-clause-made c source =
    let same : rule_of c.match-load_root.result ≡ rule_of c.load_root.result =
    elim c.match-load_root.branch [
      | in-Ok w ↦ ap rule_of w.result-is ∙ sym (ap rule_of w.in-Ok.is)
      | in-Err w ↦ ap rule_of w.result-is ∙ sym (ap rule_of w.in-Err.is)
    ] in
    let before : OwnState = own_of c.self.inside.tables c.self.inside.trap c.self.inside.regions c.self.inside.log in
    let held : HoldsBooks before c.args.mem.now = held_before before c.args.self.now c.args.mem.now c.self.view_is c.requires.books in
    made_as c.args.mem.now before c.args.self.now (rule_of c.load_root.result) (rule_of c.match-load_root.result) c.self.view_is same
    (tables_made (descriptors_in c.args.mem.now) (descriptors_in c.args.mem.now) c.self.inside.tables.root c.load_root.new.self.root
    c.self.inside.trap (book_in c.self.inside.regions c.args.mem.now) (log_in c.self.inside.log c.args.mem.now) (seen c.args.mem.now) (seen c.args.mem.now) (LoadRoot c.args.frame) source _ _
    c.load_root.result
    refl refl held.books
    c.load_root.ensures.judged
    (err_with (λ same. (refl, ap (λ (t : Tables4). t.root) same, refl)) c.load_root.result c.load_root.ensures.refused)
    (on_ok c.load_root.result refl) c.load_root.ensures.root (on_ok c.load_root.result refl) c.load_root.ensures.books.described (λ none f is. is))

pub returns-clause-refused : goal.returns-clause-refused
returns-clause-refused c =
    let same : rule_of c.match-load_root.result ≡ rule_of c.load_root.result =
    elim c.match-load_root.branch [
      | in-Ok w ↦ ap rule_of w.result-is ∙ sym (ap rule_of w.in-Ok.is)
      | in-Err w ↦ ap rule_of w.result-is ∙ sym (ap rule_of w.in-Err.is)
    ] in
    err_as _ c.load_root.result c.match-load_root.result same
    (err_with (λ same. (
      own_stands c.self.inside.tables c.load_root.new.self c.self.inside.trap c.self.inside.regions c.self.inside.regions c.self.inside.log c.self.inside.log
          c.args.self.now c.self.view_is same refl refl,
      refl,
    )) c.load_root.result c.load_root.ensures.refused)

pub returns-clause-leaves : goal.returns-clause-leaves
returns-clause-leaves c = leaves_all (books_in c.args.self.now c.args.mem.now).ledger.book (LoadRoot c.args.frame) c.args.mem.now c.args.mem.now refl
