use Rattle.std.proofs.Common.{◌≡◌, ℕ, ◌+◌, ◌*◌, ◌≤◌, List, length, refl, sym, ap, subst, ◌∙◌}
use Rattle.std.specs.Prelude.{All, IfSome}
use Rattle.nk_bits.specs.Rules.{rule_of}
use Rattle.page_desc.specs.DescriptorBytes.{descriptors_in}
use Rattle.page_desc.specs.FrameDescriptors.{Descriptors}
use Rattle.phys_mem.specs.MaskedMemory.{seen}
use Rattle.region_book.specs.RegionRecords.{region_of}
use Rattle.region_book.specs.RegionBytes.{book_in}
use Rattle.write_log.specs.LogBytes.{log_in}
use Rattle.nk_body.specs.declared.call.Call.TheVariants.{Write}
use Rattle.nk_body.specs.CallMade.{IsMade}
use Rattle.nk_body.specs.CallRules.{Bytes}
use Rattle.nk_body.specs.NestedRecord.{HoldsBooks, OwnState, books_in}
use Rattle.nk_body.proofs.CallsMade.{books_of, held_before, made_as, own_of}
use Rattle.nk_body.proofs.RegionsHeld.{descriptors_stand, err_with, frames_apart}
use Rattle.nk_body.proofs.RegionsMade.{frames_within, write_made}
use Rattle.nk_body.proofs.BooksLeft.{err_as, own_stands, write_leaves}
use Rattle.nk_body.specs.BooksTouched.{LeavesBooks}
use Rattle.nk_body.proofs.kernel.Kernel.write_bytes.Goals.{in-Err, in-Ok}
use Rattle.nk_body.proofs.kernel.Kernel.write_bytes.Goals as goal

pub write-requires-clause-frames : goal.write-requires-clause-frames
write-requires-clause-frames c =
    let before : OwnState = own_of c.self.inside.tables c.self.inside.trap c.self.inside.regions c.self.inside.log in
    let held : HoldsBooks before c.args.mem.now = held_before before c.args.self.now c.args.mem.now c.self.view_is c.requires.books in
    subst (λ n. IfSome (region_of (book_in before.regions c.args.mem.now) c.args.region) (λ r. All (λ f. 4096 * f + 4096 ≤ n) r.frames))
    (c.mask_law.ensures.length _ c.args.mem.now)
    (frames_within (books_in before c.args.mem.now) (seen c.args.mem.now) c.args.region held.books)

pub write-requires-clause-apart : goal.write-requires-clause-apart
write-requires-clause-apart c =
    let before : OwnState = own_of c.self.inside.tables c.self.inside.trap c.self.inside.regions c.self.inside.log in
    let held : HoldsBooks before c.args.mem.now = held_before before c.args.self.now c.args.mem.now c.self.view_is c.requires.books in
    frames_apart c.held_tables_law.ensures before c.args.mem.now c.args.region held

pub returns-clause-made : goal.returns-clause-made
returns-clause-made c place =
    let same : rule_of c.match-write.result ≡ rule_of c.write.result =
    elim c.match-write.branch [
      | in-Ok w ↦ ap rule_of w.result-is ∙ sym (ap rule_of w.in-Ok.is)
      | in-Err w ↦ ap rule_of w.result-is ∙ sym (ap rule_of w.in-Err.is)
    ] in
    let before : OwnState = own_of c.self.inside.tables c.self.inside.trap c.self.inside.regions c.self.inside.log in
    let held : HoldsBooks before c.args.mem.now = held_before before c.args.self.now c.args.mem.now c.self.view_is c.requires.books in
    let m : List ℕ = c.args.mem.now in
    let later : List ℕ = c.write.new.mem in
    let stands = descriptors_stand before m later held c.write.ensures.size c.stored_law.ensures c.write.ensures.descriptors in
    made_as m before c.args.self.now (rule_of c.write.result) (rule_of c.match-write.result) c.self.view_is same
    (subst (λ (d : Descriptors). IsMade (books_in before m) (seen m) (Write c.args.region c.args.offset place (length c.args.bytes.now)) (Bytes c.args.bytes.now) (rule_of c.write.result)
    (books_of d before.root before.trap (book_in c.write.new.regions later) (log_in c.write.new.log later)) (seen later)) (sym stands.0)
    (write_made (descriptors_in m) before.root before.trap (book_in before.regions m) (book_in c.write.new.regions later) (log_in before.log m)
    (log_in c.write.new.log later) (seen m) (seen later) c.args.region c.args.offset place c.args.bytes.now held.books
    c.page_tables_law.ensures c.write.result c.write.ensures.judged
    (err_with (λ same. (λ i. book_in (same.0 i) (same.2 i), λ i. log_in (same.1 i) (same.2 i), ap seen same.2)) c.write.result c.write.ensures.refused)
    c.write.ensures.book c.write.ensures.log c.write.ensures.memory))

pub returns-clause-form : goal.returns-clause-form
returns-clause-form c =
    let before : OwnState = own_of c.self.inside.tables c.self.inside.trap c.self.inside.regions c.self.inside.log in
    let held : HoldsBooks before c.args.mem.now = held_before before c.args.self.now c.args.mem.now c.self.view_is c.requires.books in
    let stands = descriptors_stand before c.args.mem.now c.write.new.mem held c.write.ensures.size c.stored_law.ensures
    c.write.ensures.descriptors in
    record { stored = stands.1; regions = c.write.ensures.held; log = c.write.ensures.held_log }

pub returns-clause-refused : goal.returns-clause-refused
returns-clause-refused c =
    let same : rule_of c.match-write.result ≡ rule_of c.write.result =
    elim c.match-write.branch [
      | in-Ok w ↦ ap rule_of w.result-is ∙ sym (ap rule_of w.in-Ok.is)
      | in-Err w ↦ ap rule_of w.result-is ∙ sym (ap rule_of w.in-Err.is)
    ] in
    err_as _ c.write.result c.match-write.result same
    (err_with (λ same. (
      own_stands c.self.inside.tables c.self.inside.tables c.self.inside.trap c.self.inside.regions c.write.new.regions c.self.inside.log c.write.new.log
          c.args.self.now c.self.view_is refl same.0 same.1,
      same.2,
    )) c.write.result c.write.ensures.refused)

pub returns-clause-leaves : goal.returns-clause-leaves
returns-clause-leaves c place =
    let before : OwnState = own_of c.self.inside.tables c.self.inside.trap c.self.inside.regions c.self.inside.log in
    subst (λ (own : OwnState). LeavesBooks (books_in own c.args.mem.now).ledger.book (Write c.args.region c.args.offset place (length c.args.bytes.now)) c.args.mem.now c.write.new.mem)
    c.self.view_is
    (write_leaves (books_in before c.args.mem.now).ledger.book c.args.region c.args.offset place (length c.args.bytes.now) c.args.mem.now c.write.new.mem
    c.write.ensures.descriptors c.write.ensures.unlogged)
