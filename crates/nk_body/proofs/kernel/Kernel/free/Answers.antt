use Rattle.std.proofs.Common.{◌≡◌, List, ℕ, sym, ap, subst, ◌∙◌, refl}
use Rattle.nk_bits.specs.Rules.{rule_of}
use Rattle.phys_mem.specs.MaskedMemory.{seen}
use Rattle.page_desc.specs.DescriptorBytes.{descriptors_in}
use Rattle.page_desc.specs.FrameDescriptors.{Descriptors}
use Rattle.region_book.specs.RegionBytes.{book_in}
use Rattle.write_log.specs.LogBytes.{log_in}
use Rattle.nk_body.specs.declared.call.Call.TheVariants.{Free}
use Rattle.nk_body.specs.CallMade.{IsMade}
use Rattle.nk_body.specs.NestedRecord.{HoldsBooks, OwnState, books_in}
use Rattle.nk_body.proofs.CallsMade.{books_of, held_before, made_as, own_of}
use Rattle.nk_body.proofs.RegionsHeld.{beside_stands, err_with}
use Rattle.nk_body.proofs.RegionsMade.{free_made}
use Rattle.nk_body.proofs.BooksLeft.{err_as, own_stands, pool_leaves}
use Rattle.nk_body.proofs.kernel.Kernel.free.Goals.{in-Err, in-Ok}
use Rattle.nk_body.proofs.kernel.Kernel.free.Goals as goal

pub returns-clause-made : goal.returns-clause-made
returns-clause-made c source =
    let same : rule_of c.match-free.result ≡ rule_of c.free.result =
    elim c.match-free.branch [
      | in-Ok w ↦ ap rule_of w.result-is ∙ sym (ap rule_of w.in-Ok.is)
      | in-Err w ↦ ap rule_of w.result-is ∙ sym (ap rule_of w.in-Err.is)
    ] in
    let before : OwnState = own_of c.self.inside.tables c.self.inside.trap c.self.inside.regions c.self.inside.log in
    let held : HoldsBooks before c.args.mem.now = held_before before c.args.self.now c.args.mem.now c.self.view_is c.requires.books in
    let m : List ℕ = c.args.mem.now in
    let later : List ℕ = c.free.new.mem in
    let stands = beside_stands before m later held c.free.ensures.elsewhere.size c.stored_law.ensures c.held_log_law.ensures
    (λ p is. c.free.ensures.elsewhere.elsewhere p) in
    made_as m before c.args.self.now (rule_of c.free.result) (rule_of c.match-free.result) c.self.view_is same
    (subst (λ (d : Descriptors). IsMade (books_in before m) (seen m) (Free c.args.region) source (rule_of c.free.result)
    (books_of d before.root before.trap (book_in c.free.new.self later) (log_in before.log later)) (seen later)) (sym stands.described)
    (free_made (descriptors_in m) before.root before.trap (book_in before.regions m) (book_in c.free.new.self later) (log_in before.log m)
    (log_in before.log later) (seen m) (seen later) source held.books c.args.region stands.log
    (c.held_regions_law.ensures.unseen m later held.regions.size c.free.ensures.elsewhere) c.free.result c.free.ensures.judged
    (err_with (λ same. λ i. book_in (same.0 i) (same.1 i)) c.free.result c.free.ensures.refused) c.free.ensures.freed))

pub returns-clause-form : goal.returns-clause-form
returns-clause-form c =
    let before : OwnState = own_of c.self.inside.tables c.self.inside.trap c.self.inside.regions c.self.inside.log in
    let held : HoldsBooks before c.args.mem.now = held_before before c.args.self.now c.args.mem.now c.self.view_is c.requires.books in
    let stands = beside_stands before c.args.mem.now c.free.new.mem held c.free.ensures.elsewhere.size c.stored_law.ensures
    c.held_log_law.ensures (λ p is. c.free.ensures.elsewhere.elsewhere p) in
    record { stored = stands.stored; regions = c.free.ensures.held; log = stands.counts }

pub returns-clause-refused : goal.returns-clause-refused
returns-clause-refused c =
    let same : rule_of c.match-free.result ≡ rule_of c.free.result =
    elim c.match-free.branch [
      | in-Ok w ↦ ap rule_of w.result-is ∙ sym (ap rule_of w.in-Ok.is)
      | in-Err w ↦ ap rule_of w.result-is ∙ sym (ap rule_of w.in-Err.is)
    ] in
    err_as _ c.free.result c.match-free.result same
    (err_with (λ same. (
      own_stands c.self.inside.tables c.self.inside.tables c.self.inside.trap c.self.inside.regions c.free.new.self c.self.inside.log c.self.inside.log
          c.args.self.now c.self.view_is refl same.0 refl,
      same.1,
    )) c.free.result c.free.ensures.refused)

pub returns-clause-leaves : goal.returns-clause-leaves
returns-clause-leaves c =
    pool_leaves (books_in c.args.self.now c.args.mem.now).ledger.book (Free c.args.region) c.args.mem.now c.free.new.mem refl
    (λ p is. c.free.ensures.elsewhere.elsewhere p)
