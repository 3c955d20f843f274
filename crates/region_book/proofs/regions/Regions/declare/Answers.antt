use Rattle.std.proofs.Common.{◌≡◌, ◌<◌, ap, arith, refl, inl, inr, length, length-take-le, map, subst, sym, take, ◌∙◌}
use Rattle.std.specs.Prelude.{if◌then◌else◌}
use Rattle.std.proofs.lemmas.List.{length-map}
use Rattle.page_desc.specs.DescriptorBytes.{kinds_in}
use Rattle.region_book.specs.RegionBytes.{bits_in, book_in, row_in}
use Rattle.region_book.specs.RegionCalls.{with_one_more, page_region}
use Rattle.region_book.specs.RegionRecords.{IsBook, RegionRecord}
use Rattle.region_book.specs.RegionRows.{region_of_row, region_at}
use Rattle.region_book.proofs.DeclaredRegions.{page_added}
use Rattle.region_book.proofs.Found.{for_some}
use Rattle.region_book.proofs.KeptSlots.{kept_behind, slots_as_they_were}
use Rattle.region_book.proofs.NumberedRows.{pages_declared}
use Rattle.region_book.proofs.RegionsKept.{each_same}
use Rattle.region_book.proofs.regions.Regions.declare.Goals as goal

-- slots and bits hold the same book once the frames are guarded
pub admit-requires-clause-held : goal.admit-requires-clause-held
admit-requires-clause-held c =
    (c.held_regions_law.ensures.agree c.args.self.now c.args.mem.now c.guard.new.mem c.requires.held
    c.guard.ensures.elsewhere.size (λ p low high. c.guard.ensures.elsewhere.elsewhere p (inl high))).1

pub admit-requires-clause-book : goal.admit-requires-clause-book
admit-requires-clause-book c =
    subst IsBook (sym (c.held_regions_law.ensures.agree c.args.self.now c.args.mem.now c.guard.new.mem c.requires.held
    c.guard.ensures.elsewhere.size (λ p low high. c.guard.ensures.elsewhere.elsewhere p (inl high))).0) c.requires.book

pub admit-requires-clause-number : goal.admit-requires-clause-number
admit-requires-clause-number c =
    c.page_row-row.ensures.row.2
    ∙ sym (ap (λ b. if b then 0 else c.args.self.now.declared) c.page_row-row.ensures.row.1)

pub admit-requires-clause-pages : goal.admit-requires-clause-pages
admit-requires-clause-pages c =
    pages_declared c.page_row-row.result c.in-Ok.pages.count c.page_row-row.ensures.row.1
    (omega (arith, c.page_row-row.ensures.row.0, c.in-Ok.ensures.size))

count_is : (c : goal.After-admit) → length (take c.in-Ok.pages.count c.in-Ok.pages.frames) ≡ c.in-Ok.pages.count
count_is c = length-take-le c.in-Ok.pages.count c.in-Ok.pages.frames (omega (arith, c.in-Ok.ensures.size))

book_after : (c : goal.After-admit) → book_in c.admit.new.self c.admit.new.mem ≡ with_one_more (book_in c.args.self.now c.args.mem.now)
    (page_region (book_in c.args.self.now c.args.mem.now) c.args.va c.args.size c.args.policy
    (take c.in-Ok.pages.count c.in-Ok.pages.frames)) (length (take c.in-Ok.pages.count c.in-Ok.pages.frames))
book_after c =
    let now = book_in c.args.self.now c.args.mem.now in
    let same : book_in c.args.self.now c.guard.new.mem ≡ book_in c.args.self.now c.args.mem.now =
    (c.held_regions_law.ensures.agree c.args.self.now c.args.mem.now c.guard.new.mem c.requires.held
    c.guard.ensures.elsewhere.size (λ p low high. c.guard.ensures.elsewhere.elsewhere p (inl high))).0 in
    c.admit.ensures.added
    ∙ ap (λ book. with_one_more book (region_of_row c.page_row-row.result) c.in-Ok.pages.count) same
    ∙ ap (λ (r : RegionRecord). with_one_more (book_in c.args.self.now c.args.mem.now) r c.in-Ok.pages.count)
    (c.page_row-row.ensures.region (book_in c.args.self.now c.args.mem.now) refl)
    ∙ ap (with_one_more (book_in c.args.self.now c.args.mem.now) (page_region (book_in c.args.self.now c.args.mem.now) c.args.va
    c.args.size c.args.policy (take c.in-Ok.pages.count c.in-Ok.pages.frames))) (sym (count_is c))

pub returns-in-Ok-clause-region : goal.returns-in-Ok-clause-region
returns-in-Ok-clause-region c =
    for_some _ (take c.in-Ok.pages.count c.in-Ok.pages.frames) _ c.in-Ok.ensures.found (
      book_after c,
      (c.stored_law.ensures.agree c.guard.new.frames c.guard.new.mem c.admit.new.mem c.guard.ensures.held
          c.admit.ensures.elsewhere.size (λ p high book. c.admit.ensures.elsewhere.elsewhere p (inr high))).0
          ∙ c.guard.ensures.guarded,
    )

pub returns-in-Ok-clause-described : goal.returns-in-Ok-clause-described
returns-in-Ok-clause-described c =
    (c.stored_law.ensures.agree c.guard.new.frames c.guard.new.mem c.admit.new.mem c.guard.ensures.held
    c.admit.ensures.elsewhere.size (λ p high book. c.admit.ensures.elsewhere.elsewhere p (inr high))).1

pub returns-in-Ok-clause-unseen : goal.returns-in-Ok-clause-unseen
returns-in-Ok-clause-unseen c =
    c.held_regions_law.ensures.unseen c.guard.new.mem c.admit.new.mem
    (omega (arith, c.requires.held.size, c.guard.ensures.elsewhere.size)) c.admit.ensures.elsewhere
    ∙ c.stored_law.ensures.unseen c.args.frames.now c.args.mem.now c.guard.new.mem c.requires.described
    c.guard.ensures.elsewhere

pub returns-in-Ok-clause-keeps : goal.returns-in-Ok-clause-keeps
returns-in-Ok-clause-keeps c =
    kept_behind c.args.self.now c.admit.new.self c.args.mem.now c.guard.new.mem c.admit.new.mem
    (each_same c.args.self.now c.args.mem.now c.guard.new.mem c.requires.held c.guard.ensures.elsewhere.size
    (λ p low high. c.guard.ensures.elsewhere.elsewhere p (inl high))) c.admit.ensures.keeps

pub returns-in-Err-clause-keeps : goal.returns-in-Err-clause-keeps
returns-in-Err-clause-keeps c = slots_as_they_were c.args.self.now c.args.mem.now c.requires.book

pub returns-in-Ok-clause-book : goal.returns-in-Ok-clause-book
returns-in-Ok-clause-book c =
    let now = book_in c.args.self.now c.args.mem.now in
    let few : length now.regions < 256 = omega (
      arith,
      c.in-Ok.ensures.room,
      c.count.ensures,
      length-map (map (row_in c.args.mem.now) c.args.self.now.slots) (region_at (bits_in c.args.mem.now)),
      length-map c.args.self.now.slots (row_in c.args.mem.now),
    ) in
    subst IsBook (sym (book_after c))
    (page_added now c.requires.book c.args.va c.args.size c.args.policy
    (take c.in-Ok.pages.count c.in-Ok.pages.frames)
    (omega (arith, c.in-Ok.ensures.size)) (omega (arith, c.in-Ok.ensures.size)) c.in-Ok.ensures.policy.0
    c.in-Ok.ensures.policy.1
    (omega (arith, count_is c, c.in-Ok.ensures.size)) c.in-Ok.ensures.once (kinds_in c.args.mem.now) c.in-Ok.ensures.data
    c.requires.pool few (omega (arith, count_is c, c.in-Ok.ensures.room, c.declared.ensures)) c.requires.regions)
