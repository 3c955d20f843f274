use Rattle.std.proofs.Common.{◌+◌, ◌*◌, ◌≤◌, ◌++◌, All, ap, length, codes, map, sym, subst}
use Rattle.std.specs.List.{range_with_len}
use Rattle.hex.specs.Hex.{encode_lower}
use Rattle.phys_mem.specs.Memory.{byte_at}
use Rattle.region_book.specs.declared.regions.Region.{Region}
use Rattle.region_book.specs.RegionBytes.{book_in}
use Rattle.region_book.specs.RegionRecords.{RegionRecord, byte_place}
use Rattle.report_text.proofs.LedgerLines.{place_of, shown_at}
use Rattle.report_text.proofs.LineParts.{region_parts}
use Rattle.report_text.proofs.TakenUp.{end_cut, first_cut, second_cut, third_cut, went_out}
use Rattle.report_text.proofs.Known.{is_some_from, some_at, some_from}
use Rattle.report_text.proofs.ledger_lines.put_region.Goals as goal

pub take_region-requires-clause-live : goal.take_region-requires-clause-live
take_region-requires-clause-live g c =
    let it = shown_at (book_in c.args.regions.now c.args.mem.now) c.requires.book c.args.i c.nth-region.result c.requires.number
    c.nth-region.ensures in
    is_some_from it.live

pub take_region-requires-clause-size : goal.take_region-requires-clause-size
take_region-requires-clause-size g c =
    let it = shown_at (book_in c.args.regions.now c.args.mem.now) c.requires.book c.args.i c.nth-region.result c.requires.number
    c.nth-region.ensures in
    some_from _ it.live (sym (ap (λ (s : Region). s.size) it.same))

pub take_region-requires-clause-frames : goal.take_region-requires-clause-frames
take_region-requires-clause-frames g c =
    let it = shown_at (book_in c.args.regions.now c.args.mem.now) c.requires.book c.args.i c.nth-region.result c.requires.number
    c.nth-region.ensures in
    let frames = c.requires.frames c.args.i it.region c.requires.number in
    some_from _ it.live
    (subst (λ (r : RegionRecord). All (λ f. 4096 * f + 4096 ≤ length c.args.mem.now) r.frames)
    (place_of (book_in c.args.regions.now c.args.mem.now).regions c.args.i it.region c.requires.number it.at) frames)

pub returns-in-Err-clause-some : goal.returns-in-Err-clause-some
returns-in-Err-clause-some g c =
    let it = shown_at (book_in c.args.regions.now c.args.mem.now) c.requires.book c.args.i c.nth-region.result c.requires.number
    c.nth-region.ensures in
    let bytes = map (λ o. byte_at c.args.mem.now (byte_place it.region o)) (range_with_len 0 it.region.size) in
    let line = region_parts it.region c.nth-region.result bytes c.region_head.result.now it.same
    c.region_head.ensures in
    some_from _ it.at (first_cut c.pieces_law.ensures _ _ _ c.region_head.result.now (encode_lower bytes ++ codes "\n") _
    c.new-pieces.ensures line c.in-Err.ensures.cut)

pub returns-in-Err-take_region-clause-some : goal.returns-in-Err-take_region-clause-some
returns-in-Err-take_region-clause-some g c =
    let it = shown_at (book_in c.args.regions.now c.args.mem.now) c.requires.book c.args.i c.nth-region.result c.requires.number
    c.nth-region.ensures in
    let bytes = map (λ o. byte_at c.args.mem.now (byte_place it.region o)) (range_with_len 0 it.region.size) in
    let line = region_parts it.region c.nth-region.result bytes c.region_head.result.now it.same
    c.region_head.ensures in
    some_from _ it.at
    (second_cut c.pieces_law.ensures _ _ c.region_head.result.now (encode_lower bytes) (codes "\n") _ c.new-pieces.ensures line _ _
    c.in_default.ensures.moved
    _ (some_at _ it.live c.in-Err-take_region.ensures.cut))

pub returns-in-Err-push-clause-some : goal.returns-in-Err-push-clause-some
returns-in-Err-push-clause-some g c =
    let it = shown_at (book_in c.args.regions.now c.args.mem.now) c.requires.book c.args.i c.nth-region.result c.requires.number
    c.nth-region.ensures in
    let bytes = map (λ o. byte_at c.args.mem.now (byte_place it.region o)) (range_with_len 0 it.region.size) in
    let line = region_parts it.region c.nth-region.result bytes c.region_head.result.now it.same
    c.region_head.ensures in
    some_from _ it.at
    (third_cut c.pieces_law.ensures _ _ c.region_head.result.now (encode_lower bytes) (codes "\n") _ c.new-pieces.ensures line _ _
    c.in_default.ensures.moved
    _ _ (some_at _ it.live c.in_default-take_region.ensures.moved) _ c.in-Err-push.ensures.cut)

pub returns-clause-all : goal.returns-clause-all
returns-clause-all g c =
    let it = shown_at (book_in c.args.regions.now c.args.mem.now) c.requires.book c.args.i c.nth-region.result c.requires.number
    c.nth-region.ensures in
    let bytes = map (λ o. byte_at c.args.mem.now (byte_place it.region o)) (range_with_len 0 it.region.size) in
    let line = region_parts it.region c.nth-region.result bytes c.region_head.result.now it.same
    c.region_head.ensures in
    some_from _ it.at
    (went_out c.pieces_law.ensures _ _ c.region_head.result.now (encode_lower bytes) (codes "\n") _ c.new-pieces.ensures line _ _
    c.in_default.ensures.moved
    _ _ (some_at _ it.live c.in_default-take_region.ensures.moved) _ _ c.in_default-push.ensures.moved c.finish.result
    _ _ c.finish.ensures.moved c.finish.ensures.none)

pub returns-clause-some : goal.returns-clause-some
returns-clause-some g c =
    let it = shown_at (book_in c.args.regions.now c.args.mem.now) c.requires.book c.args.i c.nth-region.result c.requires.number
    c.nth-region.ensures in
    let bytes = map (λ o. byte_at c.args.mem.now (byte_place it.region o)) (range_with_len 0 it.region.size) in
    let line = region_parts it.region c.nth-region.result bytes c.region_head.result.now it.same
    c.region_head.ensures in
    some_from _ it.at
    (end_cut c.pieces_law.ensures _ _ c.region_head.result.now (encode_lower bytes) (codes "\n") _ c.new-pieces.ensures line _ _
    c.in_default.ensures.moved
    _ _ (some_at _ it.live c.in_default-take_region.ensures.moved) _ _ c.in_default-push.ensures.moved c.finish.result
    _ c.finish.ensures.cut)
