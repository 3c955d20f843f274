use Rattle.std.proofs.Common.{◌≡◌, ◌-◌, ◌<◌, false, arith, refl, sym, ap, ◌∙◌, subst, length, map}
use Rattle.std.specs.Prelude.{Some, if◌then◌else◌}
use Rattle.std.proofs.lemmas.List.{length-map}
use Rattle.region_book.specs.RegionBytes.{bits_in, book_in, row_in}
use Rattle.region_book.specs.RegionCalls.{with_one_more, is_range_taken, pool_region}
use Rattle.nk_bits.specs.KernelLayout.{pool_start}
use Rattle.region_book.specs.RegionRecords.{Book, IsBook, RegionRecord}
use Rattle.region_book.specs.RegionRows.{region_of_row, region_at}
use Rattle.region_book.proofs.KeptSlots.{kept_behind, slots_as_they_were}
use Rattle.region_book.proofs.NumberedRows.{pages_pooled}
use Rattle.region_book.proofs.PoolRegions.{pool_added, pool_aside, pool_places, room_free, zeros_are}
use Rattle.region_book.proofs.SeenStores.{book_stays, held_stays, rows_stay}
use Rattle.region_book.proofs.regions.Regions.alloc.Goals as goal

pub put_zeros-requires-clause-memory : goal.put_zeros-requires-clause-memory
put_zeros-requires-clause-memory c =
    pool_places c.pool_row-row.result c.in-Ok.place (length c.args.mem.now)
    c.pool_row-row.ensures.row.1 c.pool_row-row.ensures.first
    (omega (arith, c.in-Ok.ensures.within, c.pool_row-row.ensures.row.0)) (omega (arith, c.requires.held.size))

pub put_zeros-requires-clause-apart : goal.put_zeros-requires-clause-apart
put_zeros-requires-clause-apart c =
    pool_aside c.pool_row-row.result c.in-Ok.place _ c.pool_row-row.ensures.row.1 c.pool_row-row.ensures.first
    (omega (arith, c.in-Ok.ensures.within, c.pool_row-row.ensures.row.0))

-- the slots and bits hold the same book once the new region's bytes are 0
pub admit-requires-clause-held : goal.admit-requires-clause-held
admit-requires-clause-held c =
    held_stays c.args.mem.now c.put_zeros.new.mem c.put_zeros.ensures.length c.put_zeros.ensures.others c.args.self.now
    c.requires.held

pub admit-requires-clause-pooled : goal.admit-requires-clause-pooled
admit-requires-clause-pooled c = λ pooled.
    let same : book_in c.args.self.now c.put_zeros.new.mem ≡ book_in c.args.self.now c.args.mem.now =
    book_stays c.args.mem.now c.put_zeros.new.mem c.put_zeros.ensures.length c.put_zeros.ensures.others c.args.self.now
    c.requires.held in
    let row = c.pool_row-row.result in
    let free : is_range_taken (book_in c.args.self.now c.args.mem.now).regions c.args.size c.in-Ok.place ≡ false =
    room_free (book_in c.args.self.now c.args.mem.now).regions c.args.size c.in-Ok.place c.in-Ok.ensures.room in
    let place : row.first - pool_start ≡ c.in-Ok.place = omega (arith, c.pool_row-row.ensures.first) in (
      omega (arith, c.pool_row-row.ensures.first),
      omega (arith, c.pool_row-row.ensures.first, c.in-Ok.ensures.within, c.pool_row-row.ensures.row.0),
      ap (λ (book : Book). is_range_taken book.regions row.size (row.first - pool_start)) same
          ∙ ap (is_range_taken (book_in c.args.self.now c.args.mem.now).regions row.size) place
          ∙ ap (λ size. is_range_taken (book_in c.args.self.now c.args.mem.now).regions size c.in-Ok.place) c.pool_row-row.ensures.row.0
          ∙ free,
    )

pub admit-requires-clause-book : goal.admit-requires-clause-book
admit-requires-clause-book c =
    subst IsBook (sym (book_stays c.args.mem.now c.put_zeros.new.mem c.put_zeros.ensures.length c.put_zeros.ensures.others
    c.args.self.now c.requires.held)) c.requires.book

pub admit-requires-clause-number : goal.admit-requires-clause-number
admit-requires-clause-number c =
    c.pool_row-row.ensures.row.2
    ∙ sym (ap (λ b. if b then 0 else c.args.self.now.declared) c.pool_row-row.ensures.row.1)

pub admit-requires-clause-pages : goal.admit-requires-clause-pages
admit-requires-clause-pages c = pages_pooled c.pool_row-row.result c.pool_row-row.ensures.row.1

-- the book that admit leaves is that of the memory before, with the region of the pool behind
book_after : (c : goal.After-admit) → book_in c.admit.new.self c.admit.new.mem ≡ with_one_more (book_in c.args.self.now c.args.mem.now)
    (pool_region (book_in c.args.self.now c.args.mem.now) c.args.size c.args.policy c.in-Ok.place) 0
book_after c =
    let same : book_in c.args.self.now c.put_zeros.new.mem ≡ book_in c.args.self.now c.args.mem.now =
    book_stays c.args.mem.now c.put_zeros.new.mem c.put_zeros.ensures.length c.put_zeros.ensures.others c.args.self.now
    c.requires.held in
    c.admit.ensures.added
    ∙ ap (λ book. with_one_more book (region_of_row c.pool_row-row.result) 0) same
    ∙ ap (λ (r : RegionRecord). with_one_more (book_in c.args.self.now c.args.mem.now) r 0)
    (c.pool_row-row.ensures.region (book_in c.args.self.now c.args.mem.now) refl)

pub returns-in-Ok-clause-granted : goal.returns-in-Ok-clause-granted
returns-in-Ok-clause-granted c =
    let row = c.pool_row-row.result in
    let place : c.in-Ok.place ≡ row.first - pool_start = omega (arith, c.pool_row-row.ensures.first) in (
      ap (λ (r : RegionRecord). r.id) (c.pool_row-row.ensures.region (book_in c.args.self.now c.args.mem.now) refl),
      omega (arith, c.pool_row-row.ensures.first),
      omega (arith, c.pool_row-row.ensures.first, c.in-Ok.ensures.within),
      c.in-Ok.ensures.room ∙ ap (λ p. Some p) place,
    )

pub returns-in-Ok-clause-allocated : goal.returns-in-Ok-clause-allocated
returns-in-Ok-clause-allocated c =
    book_after c
    ∙ ap (λ p. with_one_more (book_in c.args.self.now c.args.mem.now)
    (pool_region (book_in c.args.self.now c.args.mem.now) c.args.size c.args.policy p) 0) (omega (arith, c.pool_row-row.ensures.first))

pub returns-in-Ok-clause-memory : goal.returns-in-Ok-clause-memory
returns-in-Ok-clause-memory c =
    c.held_regions_law.ensures.unseen c.put_zeros.new.mem c.admit.new.mem
    (omega (arith, c.requires.held.size, c.put_zeros.ensures.length)) c.admit.ensures.elsewhere
    ∙ zeros_are (book_in c.args.self.now c.args.mem.now) c.pool_row-row.result c.args.size c.args.policy c.in-Ok.place _
    _ _ c.pool_row-row.ensures.held c.pool_row-row.ensures.row.0
    (c.pool_row-row.ensures.region (book_in c.args.self.now c.args.mem.now) refl) (omega (arith, c.pool_row-row.ensures.first))
    c.put_zeros.ensures.seen

pub returns-in-Ok-clause-keeps : goal.returns-in-Ok-clause-keeps
returns-in-Ok-clause-keeps c =
    kept_behind c.args.self.now c.admit.new.self c.args.mem.now c.put_zeros.new.mem c.admit.new.mem
    (rows_stay c.args.mem.now c.put_zeros.new.mem c.put_zeros.ensures.length c.put_zeros.ensures.others c.args.self.now
    c.requires.held) c.admit.ensures.keeps

pub returns-in-Err-clause-keeps : goal.returns-in-Err-clause-keeps
returns-in-Err-clause-keeps c = slots_as_they_were c.args.self.now c.args.mem.now c.requires.book

pub returns-in-Ok-clause-book : goal.returns-in-Ok-clause-book
returns-in-Ok-clause-book c =
    let now = book_in c.args.self.now c.args.mem.now in
    let rows = map (row_in c.args.mem.now) c.args.self.now.slots in
    let few : length now.regions < 256 = omega (
      arith,
      c.in-Ok.ensures.count,
      length-map rows (region_at (bits_in c.args.mem.now)),
      length-map c.args.self.now.slots (row_in c.args.mem.now),
    ) in
    subst IsBook (sym (book_after c))
    (pool_added now c.requires.book c.args.size c.args.policy c.in-Ok.place c.in-Ok.ensures.within.0 c.in-Ok.ensures.within.1
    c.in-Ok.ensures.policy.0 c.in-Ok.ensures.policy.1 (pool_region now c.args.size c.args.policy c.in-Ok.place) refl
    (room_free now.regions c.args.size c.in-Ok.place c.in-Ok.ensures.room) few)
