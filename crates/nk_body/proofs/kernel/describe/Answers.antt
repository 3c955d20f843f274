use Rattle.std.proofs.Common.{◌≡◌, ◌/◌, ℕ, List, length, sym, ap, subst, ◌∙◌}
use Rattle.nk_bits.specs.declared.kind.Kind.{Kind}
use Rattle.nk_bits.specs.Kinds.{kind_of}
use Rattle.phys_mem.specs.MaskedMemory.{is_book_frame}
use Rattle.phys_mem.specs.Memory.{entry_in}
use Rattle.boot_map.specs.Division.{IsLayout}
use Rattle.boot_map.specs.OpeningKinds.{kinds}
use Rattle.page_desc.specs.FrameCounts.{IsSlotFixed}
use Rattle.nk_body.proofs.OpeningBooks.{kinds_hidden, opened_zero, unseen_opening, unseen_back}
use Rattle.nk_body.proofs.kernel.describe.Goals as goal

pub start-requires-clause-zero : goal.start-requires-clause-zero
start-requires-clause-zero c p low is =
    let frames : ℕ = c.args.layout.now.frames in
    let same : c.deref.result.now ≡ kinds c.args.image.now frames = c.deref.ensures.value ∙ c.in-Ok.ensures in
    let size : length c.deref.result.now ≡ frames = ap length same ∙ c.opening_kinds_law.ensures.count c.args.image.now frames in
    opened_zero c.args.image.now c.args.mem.now frames p c.requires.opening c.requires.layout.least
    (sym (ap (λ n. is_book_frame n (p / 4096)) size) ∙ is)

pub start-requires-clause-hidden : goal.start-requires-clause-hidden
start-requires-clause-hidden c f is =
    let frames : ℕ = c.args.layout.now.frames in
    let same : c.deref.result.now ≡ kinds c.args.image.now frames = c.deref.ensures.value ∙ c.in-Ok.ensures in
    let size : length c.deref.result.now ≡ frames = ap length same ∙ c.opening_kinds_law.ensures.count c.args.image.now frames in
    ap (λ (ks : List Kind). kind_of ks f) same
    ∙ kinds_hidden c.args.image.now frames f c.requires.layout.least (c.opening_kinds_law.ensures.each c.args.image.now frames)
    (sym (ap (λ n. is_book_frame n f) size) ∙ is)

pub start-requires-clause-slot : goal.start-requires-clause-slot
start-requires-clause-slot c =
    let frames : ℕ = c.args.layout.now.frames in
    let same : c.deref.result.now ≡ kinds c.args.image.now frames = c.deref.ensures.value ∙ c.in-Ok.ensures in
    let layout : IsLayout c.args.image.now _ = subst (IsLayout c.args.image.now) c.requires.layout.division c.requires.layout in
    subst (λ (ks : List Kind). IsSlotFixed ks (entry_in c.args.mem.now)) (sym same)
    (c.opening_sound_law.ensures.sound c.args.image.now c.args.mem.now frames layout c.pages-pages.ensures.list c.requires.opening).slot

pub returns-in-Ok-clause-seen : goal.returns-in-Ok-clause-seen
returns-in-Ok-clause-seen c =
    let frames : ℕ = c.args.layout.now.frames in
    unseen_back c.start.result c.args.mem.now c.start.new.mem c.stored_law.ensures c.start.ensures.held c.start.ensures.elsewhere
    ∙ unseen_opening c.args.image.now c.args.mem.now frames c.requires.opening c.requires.layout.least c.mask_law.ensures.unhidden

pub returns-in-Err-clause-seen : goal.returns-in-Err-clause-seen
returns-in-Err-clause-seen c =
    unseen_opening c.args.image.now c.args.mem.now c.args.layout.now.frames c.requires.opening c.requires.layout.least c.mask_law.ensures.unhidden
