use Rattle.std.proofs.Common.{◌≡◌, ◌+◌, ◌≤◌, arith, sym, length, true}
use Rattle.region_book.specs.RegionCalls.{fits_region}
use Rattle.region_book.specs.RegionBytes.{book_in}
use Rattle.write_log.specs.LogBytes.{log_in}
use Rattle.region_book.specs.RegionRecords.{region_of}
use Rattle.policy_book.proofs.FoundRegions.{fits_short, has_size}
use Rattle.phys_mem.specs.MaskedMemory.{seen}
use Rattle.policy_book.proofs.OtherBooks.{others_stay}
use Rattle.policy_book.proofs.Writes.{none_fits}
use Rattle.policy_book.proofs.policy.write.Goals as goal

pub overflow_cast-offset : goal.overflow_cast-offset
overflow_cast-offset c =
    let fits : fits_region (region_of (book_in c.args.regions.now c.args.mem.now) c.args.id) c.args.offset (length c.args.bytes.now) ≡ true =
    none_fits (log_in c.args.log.now c.args.mem.now) c.args.offset (length c.args.bytes.now) _ (sym c.in-Ok.ensures.judged) in
    let short : c.args.offset + length c.args.bytes.now ≤ 65536 =
    fits_short _ c.args.offset (length c.args.bytes.now) (has_size (book_in c.args.regions.now c.args.mem.now) c.args.id c.requires.book) fits in
    omega (arith, short)

pub returns-in-Ok-clause-others : goal.returns-in-Ok-clause-others
returns-in-Ok-clause-others c =
    others_stay c.apart_law.ensures.stays (book_in c.args.regions.now c.args.mem.now) c.args.id c.args.offset (seen c.args.mem.now) (seen c.put.new.mem)
    c.args.bytes.now c.requires.book
    (none_fits (log_in c.args.log.now c.args.mem.now) c.args.offset (length c.args.bytes.now) _ (sym c.in-Ok.ensures.judged))
    c.put.ensures.memory
