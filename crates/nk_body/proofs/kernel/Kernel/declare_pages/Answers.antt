use Rattle.std.proofs.Common.{◌≡◌, ◌/◌, List, ℕ, length, sym, ap, subst, ◌∙◌, refl}
use Rattle.std.specs.Prelude.{IfSome, OnOk, slice_index}
use Rattle.nk_bits.specs.Kinds.{is_data}
use Rattle.nk_bits.specs.Rules.{rule_of}
use Rattle.page_desc.specs.DescriptorBytes.{descriptors_in, kinds_in}
use Rattle.phys_mem.specs.MaskedMemory.{seen}
use Rattle.region_book.specs.RegionCalls.{with_one_more, pages_rule, frames_from, guarded, page_region}
use Rattle.region_book.specs.RegionBytes.{book_in}
use Rattle.vmmu.specs.declared.tables.Tables4.{Tables4}
use Rattle.write_log.specs.LogBytes.{log_in}
use Rattle.write_log.specs.LogRecords.{LogRecord}
use Rattle.nk_body.specs.declared.call.Call.TheVariants.{DeclarePages}
use Rattle.nk_body.specs.CallMade.{IsMade}
use Rattle.nk_body.specs.NestedRecord.{HoldsBooks, OwnState, books_in}
use Rattle.nk_body.proofs.CallsMade.{books_of, held_before, made_as, own_of}
use Rattle.nk_body.proofs.HeldBooks.{tables_of}
use Rattle.nk_body.proofs.PagesMade.{pages_made, seen_map}
use Rattle.nk_body.proofs.RegionsHeld.{err_with}
use Rattle.nk_body.proofs.BooksLeft.{err_as, own_stands, pages_leave}
use Rattle.nk_body.proofs.kernel.Kernel.declare_pages.Goals.{in-Err, in-Ok}
use Rattle.nk_body.proofs.kernel.Kernel.declare_pages.Goals as goal

-- the frames of live regions and of the pool are guarded
pub declare-requires-clause-regions : goal.declare-requires-clause-regions
declare-requires-clause-regions c k r below i f inside =
    let before : OwnState = own_of c.self.inside.tables c.self.inside.trap c.self.inside.regions c.self.inside.log in
    let held : HoldsBooks before c.args.mem.now = held_before before c.args.self.now c.args.mem.now c.self.view_is c.requires.books in
    ap is_data (held.books.kept.frames k r below i f inside)

pub declare-requires-clause-pool : goal.declare-requires-clause-pool
declare-requires-clause-pool c f least most =
    let before : OwnState = own_of c.self.inside.tables c.self.inside.trap c.self.inside.regions c.self.inside.log in
    let held : HoldsBooks before c.args.mem.now = held_before before c.args.self.now c.args.mem.now c.self.view_is c.requires.books in
    ap is_data (held.books.kept.pool f least most)

pub returns-clause-made : goal.returns-clause-made
returns-clause-made c source =
    let same : rule_of c.match-declare.result ≡ rule_of c.declare.result =
    elim c.match-declare.branch [
      | in-Ok w ↦ ap rule_of w.result-is ∙ sym (ap rule_of w.in-Ok.is)
      | in-Err w ↦ ap rule_of w.result-is ∙ sym (ap rule_of w.in-Err.is)
    ] in
    let before : OwnState = own_of c.self.inside.tables c.self.inside.trap c.self.inside.regions c.self.inside.log in
    let held : HoldsBooks before c.args.mem.now = held_before before c.args.self.now c.args.mem.now c.self.view_is c.requires.books in
    let m : List ℕ = c.args.mem.now in
    let later : List ℕ = c.declare.new.mem in
    let map = seen_map m before.root (c.mask_law.ensures.length _ m)
    (λ page. c.held_tables_law.ensures.walks before.frames before.root page m (tables_of before m held)) in
    let log = c.held_log_law.ensures.agree before.log m later held.log c.declare.ensures.size
    (λ p low high. c.declare.ensures.others p high) in
    made_as m before c.args.self.now (rule_of c.declare.result) (rule_of c.match-declare.result) c.self.view_is same
    (subst (λ (it : List ℕ × List LogRecord). IsMade (books_in before m) (seen m) (DeclarePages c.args.address c.args.size c.args.policy) source (rule_of c.declare.result)
    (books_of (descriptors_in later) before.root before.trap (book_in c.declare.new.self later) it.1) it.0)
    (λ i. (sym c.declare.ensures.unseen i, sym log.0 i))
    (pages_made c.guarded_law.ensures c.declared_law.ensures c.record_walk_law.ensures c.walk_law.ensures c.page_tables_law.ensures (descriptors_in m) (descriptors_in later) before.root before.trap
    (book_in before.regions m) (book_in c.declare.new.self later) (log_in before.log m) (seen m) c.args.address c.args.size c.args.policy source held.books
    c.declare.result
    (c.declare.ensures.judged ∙ ap (λ at. pages_rule (book_in before.regions m) (kinds_in m) (slice_index (descriptors_in m).loose) at
    c.args.address c.args.size c.args.policy) map)
    (err_with (λ same. (λ i. book_in (same.0 i) (same.1 i), ap descriptors_in same.1)) c.declare.result c.declare.ensures.refused)
    (subst (λ at. OnOk c.declare.result (IfSome (frames_from at (c.args.address / 4096) (c.args.size / 4096))
    (λ fs. (book_in c.declare.new.self later ≡ with_one_more (book_in before.regions m)
    (page_region (book_in before.regions m) c.args.address c.args.size c.args.policy fs) (length fs))
    × (descriptors_in later ≡ record (descriptors_in m) { kinds = guarded (kinds_in m) fs })))) map c.declare.ensures.region)))

pub returns-clause-form : goal.returns-clause-form
returns-clause-form c =
    let before : OwnState = own_of c.self.inside.tables c.self.inside.trap c.self.inside.regions c.self.inside.log in
    let m : List ℕ = c.args.mem.now in
    let held : HoldsBooks before m = held_before before c.args.self.now m c.self.view_is c.requires.books in
    let log = c.held_log_law.ensures.agree before.log m c.declare.new.mem held.log c.declare.ensures.size
    (λ p low high. c.declare.ensures.others p high) in
    record { stored = c.declare.ensures.described; regions = c.declare.ensures.held; log = log.1 }

pub returns-clause-refused : goal.returns-clause-refused
returns-clause-refused c =
    let same : rule_of c.match-declare.result ≡ rule_of c.declare.result =
    elim c.match-declare.branch [
      | in-Ok w ↦ ap rule_of w.result-is ∙ sym (ap rule_of w.in-Ok.is)
      | in-Err w ↦ ap rule_of w.result-is ∙ sym (ap rule_of w.in-Err.is)
    ] in
    let after : Tables4 = record { frames = c.declare.new.frames; root = c.self.inside.tables.root } in
    let stays : after ≡ c.self.inside.tables = λ i. record { frames = c.declare.ensures.stays i; root = c.self.inside.tables.root } in
    err_as _ c.declare.result c.match-declare.result same
    (err_with (λ same. (
      own_stands c.self.inside.tables after c.self.inside.trap c.self.inside.regions c.declare.new.self c.self.inside.log c.self.inside.log
          c.args.self.now c.self.view_is stays same.0 refl,
      same.1,
    )) c.declare.result c.declare.ensures.refused)

pub returns-clause-leaves : goal.returns-clause-leaves
returns-clause-leaves c =
    pages_leave (books_in c.args.self.now c.args.mem.now).ledger.book (DeclarePages c.args.address c.args.size c.args.policy) c.args.mem.now c.declare.new.mem refl refl
    c.declare.ensures.others
