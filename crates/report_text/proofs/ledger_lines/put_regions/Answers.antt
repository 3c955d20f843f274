use Rattle.std.proofs.Common.{◌≡◌, ◌<◌, ◌+◌, ◌*◌, ◌/◌, ◌≤◌, All, IfSome, OnErr, OnOk, length, map, arith, ap, ◌∙◌, subst, sym}
use Rattle.std.specs.Prelude.{slice_get}
use Rattle.std.specs.List.{range_with_len}
use Rattle.std.specs.Io.KnownBytes.{Appends}
use Rattle.nk_host.specs.Taken.{AppendsPrefix}
use Rattle.phys_mem.specs.MaskedMemory.{is_book_frame, seen}
use Rattle.phys_mem.specs.Memory.{byte_at}
use Rattle.nk_body.specs.NestedRecord.{books_in, nested_held}
use Rattle.region_book.specs.RegionBytes.{RegionIndex, book_in}
use Rattle.region_book.specs.RegionRecords.{byte_place}
use Rattle.report_text.specs.RunLines.{region_line}
use Rattle.report_text.proofs.HeldBooks.{guarded_byte}
use Rattle.report_text.proofs.LedgerLines.{frames_within, listed_at, regions_listed, slots_counted}
use Rattle.report_text.proofs.ListedLines.{lines_ended, lines_go_on, lines_were_cut}
use Rattle.report_text.proofs.Known.{on_err, on_ok, some_at}
use Rattle.report_text.proofs.Texts.{rose_before, whole_put}
use Rattle.report_text.proofs.ledger_lines.put_regions.Goals as goal

pub put_region-requires-clause-number : goal.put_region-requires-clause-number
put_region-requires-clause-number g c =
    let number : c.loop-i.i < length c.regions-regions.result.now.slots = omega arith in
    let count = slots_counted c.regions-regions.result.now c.args.mem.now in
    omega (arith, number, count)

pub put_region-requires-clause-frames : goal.put_region-requires-clause-frames
put_region-requires-clause-frames g c =
    subst (λ (index : RegionIndex). All (λ r. All (λ f. 4096 * f + 4096 ≤ length c.args.mem.now) r.frames)
    (book_in index c.args.mem.now).regions)
    (sym c.regions-regions.ensures)
    (subst (λ n. All (λ r. All (λ f. 4096 * f + 4096 ≤ n) r.frames)
    (books_in c.args.kernel.now c.args.mem.now).ledger.book.regions)
    (c.mask_law.ensures.length (is_book_frame (length c.args.mem.now / 4096)) c.args.mem.now)
    (frames_within (books_in c.args.kernel.now c.args.mem.now) (seen c.args.mem.now) c.requires.books))

pub returns-in-Err : goal.returns-in-Err
returns-in-Err g c =
    let own = c.args.kernel.now in
    let nk = nested_held own c.args.mem.now in
    let regions = (books_in own c.args.mem.now).ledger.book.regions in
    let number : c.loop-i.i < length c.regions-regions.result.now.slots = omega arith in
    let count : length regions ≡ length c.regions-regions.result.now.slots =
    slots_counted own.regions c.args.mem.now
    ∙ ap (λ (index : RegionIndex). length index.slots) (sym c.regions-regions.ensures) in
    let below : c.loop-i.i < length regions = omega (arith, number, count) in
    let it = listed_at (books_in own c.args.mem.now) (seen c.args.mem.now) c.args.mem.now c.requires.books
    (λ f o. guarded_byte c.held_tables_law.ensures.unhidden c.mask_law.ensures.byte_seen own c.args.mem.now f o c.requires)
    c.loop-i.i below in
    let put = subst (λ (index : RegionIndex). IfSome (slice_get (book_in index c.args.mem.now).regions c.loop-i.i)
    (λ r. OnErr c.put_region.result (AppendsPrefix (g.O.Sink.taken c.loop-i.sink) (g.O.Sink.taken c.put_region.new.sink)
    (region_line r (map (λ o. byte_at c.args.mem.now (byte_place r o)) (range_with_len 0 r.size))))))
    c.regions-regions.ensures c.put_region.ensures.some in
    let here = subst (AppendsPrefix (g.O.Sink.taken c.loop-i.sink) (g.O.Sink.taken c.put_region.new.sink)) it.text
    (on_err c.in-Err.is (some_at _ it.at put)) in
    record {
      never_falls = omega (arith, c.loop-i.invariant.never_fell, c.in-Err.ensures.never_falls);
      failed = rose_before _ _ _ c.loop-i.invariant.never_fell c.in-Err.ensures.failed;
      all = tt;
      some = subst (AppendsPrefix (g.O.Sink.taken c.args.sink.now) (g.O.Sink.taken c.put_region.new.sink))
          (regions_listed nk regions)
          (lines_were_cut g.O.Sink.taken g.O.Sink.faults _ _ _ _ _ _ c.loop-i.invariant c.put_region.new.sink below here);
    }

pub loop-i-preserved : goal.loop-i-preserved
loop-i-preserved g c =
    let own = c.args.kernel.now in
    let regions = (books_in own c.args.mem.now).ledger.book.regions in
    let number : c.loop-i.i < length c.regions-regions.result.now.slots = omega arith in
    let count : length regions ≡ length c.regions-regions.result.now.slots =
    slots_counted own.regions c.args.mem.now
    ∙ ap (λ (index : RegionIndex). length index.slots) (sym c.regions-regions.ensures) in
    let below : c.loop-i.i < length regions = omega (arith, number, count) in
    let it = listed_at (books_in own c.args.mem.now) (seen c.args.mem.now) c.args.mem.now c.requires.books
    (λ f o. guarded_byte c.held_tables_law.ensures.unhidden c.mask_law.ensures.byte_seen own c.args.mem.now f o c.requires)
    c.loop-i.i below in
    let put = subst (λ (index : RegionIndex). IfSome (slice_get (book_in index c.args.mem.now).regions c.loop-i.i)
    (λ r. OnOk c.put_region.result (Appends (g.O.Sink.taken c.loop-i.sink) (g.O.Sink.taken c.put_region.new.sink)
    (region_line r (map (λ o. byte_at c.args.mem.now (byte_place r o)) (range_with_len 0 r.size))))))
    c.regions-regions.ensures c.put_region.ensures.all in
    let here = subst (Appends (g.O.Sink.taken c.loop-i.sink) (g.O.Sink.taken c.put_region.new.sink)) it.text
    (on_ok c.in_default.is (some_at _ it.at put)) in
    lines_go_on g.O.Sink.taken g.O.Sink.faults _ _ _ _ _ _ c.loop-i.invariant c.put_region.new.sink below here
    c.put_region.ensures.never_falls

pub returns : goal.returns
returns g c =
    let own = c.args.kernel.now in
    let nk = nested_held own c.args.mem.now in
    let regions = (books_in own c.args.mem.now).ledger.book.regions in
    let all : length c.regions-regions.result.now.slots ≤ c.loop-i.i = omega arith in
    let count : length regions ≡ length c.regions-regions.result.now.slots =
    slots_counted own.regions c.args.mem.now
    ∙ ap (λ (index : RegionIndex). length index.slots) (sym c.regions-regions.ensures) in
    let past : length regions ≤ c.loop-i.i = omega (arith, all, count) in
    whole_put g.O.Sink.taken g.O.Sink.faults _ _ _ c.loop-i.invariant.never_fell
    (subst (Appends (g.O.Sink.taken c.args.sink.now) (g.O.Sink.taken c.loop-i.sink)) (regions_listed nk regions)
    (lines_ended g.O.Sink.taken g.O.Sink.faults _ _ _ _ _ _ c.loop-i.invariant past))
