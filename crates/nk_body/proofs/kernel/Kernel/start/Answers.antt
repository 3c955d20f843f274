use Rattle.std.proofs.Common.{ℕ, List, sym, ap, subst, ◌∙◌}
use Rattle.boot_map.specs.Division.{IsLayout}
use Rattle.phys_mem.specs.Memory.{entry_in}
use Rattle.page_desc.specs.FrameDescriptors.{AreCounted, Descriptors}
use Rattle.nk_body.proofs.OpeningBooks.{opened_books, opened_fixed}
use Rattle.nk_body.proofs.kernel.Kernel.start.Goals as goal

pub returns-in-Ok-clause-books : goal.returns-in-Ok-clause-books
returns-in-Ok-clause-books c =
    let frames : ℕ = c.args.layout.now.frames in
    let m : List ℕ = c.args.mem.now in
    let layout : IsLayout c.args.image.now _ = subst (IsLayout c.args.image.now) c.requires.layout.division c.requires.layout in
    let kinds_are = c.opening_kinds_law.ensures.fixed c.args.image.now frames in
    opened_books c.args.image.now m c.opened.new.mem frames c.opened.result c.requires.layout.least (c.opened.ensures.seen ∙ c.describe.ensures.seen)
    (c.opening_kinds_law.ensures.count c.args.image.now frames) (c.opening_kinds_law.ensures.each c.args.image.now frames)
    (opened_fixed c.args.image.now frames c.requires.layout.least (c.opening_kinds_law.ensures.each c.args.image.now frames)
    kinds_are.0 kinds_are.1 kinds_are.2 (c.opening_kinds_law.ensures.trap c.args.image.now frames) kinds_are.3)
    (c.opening_sound_law.ensures.sound c.args.image.now m frames layout c.pages-pages.ensures.list c.requires.opening)
    (c.opening_sound_law.ensures.kept c.args.image.now frames layout)
    (ap (λ (d : Descriptors). d.kinds) c.opened.ensures.described ∙ c.in-Ok.ensures.kinds)
    (subst (λ (d : Descriptors). AreCounted d (entry_in m)) (sym c.opened.ensures.described) c.in-Ok.ensures.counted)
    (c.opened.ensures.frames ∙ c.in-Ok.ensures.count) c.opened.ensures.root c.opened.ensures.trap c.opened.ensures.ledger c.opened.ensures.form
