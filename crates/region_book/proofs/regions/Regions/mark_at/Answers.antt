use Rattle.std.proofs.Common.{◌≡◌, ◌+◌, ◌*◌, ◌/◌, ◌≤◌, arith, refl, sym, ◌∙◌, subst, length, false}
use Rattle.std.specs.Prelude.{All, IfSome, Some, slice_get}
use Rattle.phys_mem.specs.MaskedMemory.{is_book_frame, seen}
use Rattle.phys_mem.specs.Memory.{stored}
use Rattle.region_book.specs.RegionBytes.{bits_in, book_in}
use Rattle.region_book.specs.RegionRecords.{IsBook, marked, region_of, region_stores, with_region}
use Rattle.region_book.specs.RegionRows.{region_at}
use Rattle.region_book.proofs.KeptSlots.{kept_behind}
use Rattle.region_book.proofs.PlaceFound.{listed}
use Rattle.region_book.proofs.RegionReads.{byte_aside, byte_fits, bytes_within, stores_are}
use Rattle.region_book.proofs.SeenStores.{book_stays, held_stays, rows_stay}
use Rattle.region_book.proofs.regions.Regions.mark_at.Goals as goal

pub put-requires-clause-memory : goal.put-requires-clause-memory
put-requires-clause-memory c =
    let now = book_in c.args.self.now c.args.mem.now in
    let row = c.nth_row-row.result in
    let found : region_of now row.id ≡ Some (region_at (bits_in c.args.mem.now) row) =
    listed now c.args.i (region_at (bits_in c.args.mem.now) row) c.requires.book c.nth_row-row.ensures.region in
    let same : region_of now row.id ≡ slice_get now.regions c.args.i = found ∙ sym c.nth_row-row.ensures.region in
    byte_fits now row.id (Some row) row refl (_, found) c.nth_row-row.ensures.held (length c.args.mem.now) c.requires.book
    (subst (λ o. IfSome o (λ r. All (λ f. 4096 * f + 4096 ≤ length c.args.mem.now) r.frames)) (sym same) c.requires.frames)

pub put-requires-clause-within : goal.put-requires-clause-within
put-requires-clause-within c =
    let now = book_in c.args.self.now c.args.mem.now in
    let row = c.nth_row-row.result in
    let found : region_of now row.id ≡ Some (region_at (bits_in c.args.mem.now) row) =
    listed now c.args.i (region_at (bits_in c.args.mem.now) row) c.requires.book c.nth_row-row.ensures.region in
    let same : region_of now row.id ≡ slice_get now.regions c.args.i = found ∙ sym c.nth_row-row.ensures.region in
    bytes_within now row.id (Some row) row refl (_, found) c.nth_row-row.ensures.held c.args.offset (length c.args.bytes.now)
    (subst (λ o. IfSome o (λ r. c.args.offset + length c.args.bytes.now ≤ r.size)) (sym same) c.requires.within)

pub put-requires-clause-apart : goal.put-requires-clause-apart
put-requires-clause-apart c =
    let now = book_in c.args.self.now c.args.mem.now in
    let row = c.nth_row-row.result in
    let found : region_of now row.id ≡ Some (region_at (bits_in c.args.mem.now) row) =
    listed now c.args.i (region_at (bits_in c.args.mem.now) row) c.requires.book c.nth_row-row.ensures.region in
    let same : region_of now row.id ≡ slice_get now.regions c.args.i = found ∙ sym c.nth_row-row.ensures.region in
    byte_aside now row.id (Some row) row refl (_, found) c.nth_row-row.ensures.held
    (is_book_frame (length c.args.mem.now / 4096)) c.requires.book
    (subst (λ o. IfSome o (λ r. All (λ f. is_book_frame (length c.args.mem.now / 4096) f ≡ false) r.frames)) (sym same) c.requires.apart)

-- slots and bits hold the same book once the bytes are written
pub mark_range-requires-clause-held : goal.mark_range-requires-clause-held
mark_range-requires-clause-held c =
    held_stays c.args.mem.now c.put.new.mem c.put.ensures.length c.put.ensures.others c.args.self.now c.requires.held

pub mark_range-requires-clause-book : goal.mark_range-requires-clause-book
mark_range-requires-clause-book c =
    let same : book_in c.args.self.now c.put.new.mem ≡ book_in c.args.self.now c.args.mem.now =
    book_stays c.args.mem.now c.put.new.mem c.put.ensures.length c.put.ensures.others c.args.self.now c.requires.held in
    subst IsBook (sym same) c.requires.book

pub mark_range-requires-clause-within : goal.mark_range-requires-clause-within
mark_range-requires-clause-within c =
    let same : book_in c.args.self.now c.put.new.mem ≡ book_in c.args.self.now c.args.mem.now =
    book_stays c.args.mem.now c.put.new.mem c.put.ensures.length c.put.ensures.others c.args.self.now c.requires.held in
    subst (λ book. IfSome (slice_get book.regions c.args.i) (λ r. c.args.offset + length c.args.bytes.now ≤ r.size))
    (sym same) c.requires.within

pub returns-clause-marked : goal.returns-clause-marked
returns-clause-marked c =
    let same : book_in c.args.self.now c.put.new.mem ≡ book_in c.args.self.now c.args.mem.now =
    book_stays c.args.mem.now c.put.new.mem c.put.ensures.length c.put.ensures.others c.args.self.now c.requires.held in
    subst (λ book. IfSome (slice_get book.regions c.args.i)
    (λ r. book_in c.args.self.now c.mark_range.new.mem ≡ with_region book
    (marked r c.args.offset (length c.args.bytes.now)))) same c.mark_range.ensures.marked

pub returns-clause-keeps : goal.returns-clause-keeps
returns-clause-keeps c =
    kept_behind c.args.self.now c.args.self.now c.args.mem.now c.put.new.mem c.mark_range.new.mem
    (rows_stay c.args.mem.now c.put.new.mem c.put.ensures.length c.put.ensures.others c.args.self.now c.requires.held)
    c.mark_range.ensures.keeps

pub returns-clause-memory : goal.returns-clause-memory
returns-clause-memory c =
    let now = book_in c.args.self.now c.args.mem.now in
    let row = c.nth_row-row.result in
    let found : region_of now row.id ≡ Some (region_at (bits_in c.args.mem.now) row) =
    listed now c.args.i (region_at (bits_in c.args.mem.now) row) c.requires.book c.nth_row-row.ensures.region in
    let same : region_of now row.id ≡ slice_get now.regions c.args.i = found ∙ sym c.nth_row-row.ensures.region in
    subst (λ o. IfSome o (λ r. seen c.mark_range.new.mem ≡ stored (seen c.args.mem.now) (region_stores r c.args.offset c.args.bytes.now))) same
    (stores_are now row.id (Some row) row refl (_, found) c.nth_row-row.ensures.held
    c.args.offset c.args.bytes.now (seen c.args.mem.now) (seen c.mark_range.new.mem)
    (bytes_within now row.id (Some row) row refl (_, found) c.nth_row-row.ensures.held c.args.offset (length c.args.bytes.now)
    (subst (λ o. IfSome o (λ r. c.args.offset + length c.args.bytes.now ≤ r.size)) (sym same) c.requires.within))
    (c.held_regions_law.ensures.unseen c.put.new.mem c.mark_range.new.mem
    (omega (arith, c.requires.held.size, c.put.ensures.length)) c.mark_range.ensures.elsewhere ∙ c.put.ensures.seen))
