use Rattle.std.proofs.Common.{◌++◌, ◌∙◌, ◌≡◌, [], ◌∷◌, map, ap, arith, sym, subst}
use Rattle.std.specs.List.{range_with_len}
use Rattle.hex.specs.Hex.{encode_lower}
use Rattle.nk_host.specs.PiecesOut.{MovedOn}
use Rattle.nk_host.specs.Taken.{AppendsPrefix}
use Rattle.phys_mem.specs.Memory.{byte_at}
use Rattle.region_book.specs.RegionBytes.{book_in}
use Rattle.region_book.specs.RegionRecords.{RegionRecord, byte_place, region_of}
use Rattle.report_text.specs.ClosingSection.{lines_of}
use Rattle.report_text.proofs.LineParts.{range_taken}
use Rattle.report_text.proofs.TakenUp.{takes_ended, takes_on, takes_were_cut}
use Rattle.report_text.proofs.Known.{some_at, some_from, some_is}
use Rattle.report_text.proofs.ledger_lines.take_region.Goals as goal

pub returns-in-Err-clause-cut : goal.returns-in-Err-clause-cut
returns-in-Err-clause-cut g c =
    let (r, is) = some_is (region_of (book_in c.args.regions.now c.args.mem.now) c.args.region.now.id) c.requires.live in
    let going = some_at _ is c.loop-offset.invariant.taken in
    let size : r.size ≡ c.args.region.now.size =
    some_at (λ (r : RegionRecord). r.size ≡ c.args.region.now.size) is c.requires.size in
    let byte : c.byte-byte.result ≡ byte_at c.args.mem.now (byte_place r c.loop-offset.offset) =
    some_at _ is c.byte-byte.ensures in
    let here = subst (λ b. AppendsPrefix (g.O.Sink.taken c.loop-offset.sink) (g.O.Sink.taken c.push_hex.new.sink)
    (c.loop-offset.pieces ++ encode_lower (b ∷ [])))
    byte c.in-Err.ensures.cut in
    let cut = takes_were_cut c.pieces_law.ensures g.O.Sink.taken g.O.Sink.faults _ _ _ _ _ _ _ _ going c.push_hex.new.sink
    (omega arith) here in
    let text : lines_of (λ o. encode_lower (byte_at c.args.mem.now (byte_place r o) ∷ [])) c.args.region.now.size 0
    ≡ encode_lower (map (λ o. byte_at c.args.mem.now (byte_place r o)) (range_with_len 0 r.size)) =
    range_taken (λ o. byte_at c.args.mem.now (byte_place r o)) c.args.region.now.size 0
    ∙ ap (λ n. encode_lower (map (λ o. byte_at c.args.mem.now (byte_place r o)) (range_with_len 0 n))) (sym size) in
    some_from _ is
    (subst (λ l. AppendsPrefix (g.O.Sink.taken c.args.sink.now) (g.O.Sink.taken c.push_hex.new.sink)
    (c.args.pieces.now ++ l)) text cut)

pub loop-offset-preserved : goal.loop-offset-preserved
loop-offset-preserved g c =
    let (r, is) = some_is (region_of (book_in c.args.regions.now c.args.mem.now) c.args.region.now.id) c.requires.live in
    let going = some_at _ is c.loop-offset.invariant.taken in
    let byte : c.byte-byte.result ≡ byte_at c.args.mem.now (byte_place r c.loop-offset.offset) =
    some_at _ is c.byte-byte.ensures in
    let here = subst (λ b. MovedOn (g.O.Sink.taken c.loop-offset.sink) (g.O.Sink.taken c.push_hex.new.sink)
    c.loop-offset.pieces c.push_hex.new.self
    (encode_lower (b ∷ []))) byte c.in_default.ensures.moved in
    record {
      taken = some_from _ is
          (takes_on c.pieces_law.ensures g.O.Sink.taken g.O.Sink.faults _ _ _ _ _ _ _ _ going c.push_hex.new.sink c.push_hex.new.self
          (omega arith) here
          c.push_hex.ensures.never_falls);
      counted = omega (arith, c.loop-offset.invariant.counted, c.push_hex.ensures.never_falls);
    }

pub returns-clause-moved : goal.returns-clause-moved
returns-clause-moved g c =
    let (r, is) = some_is (region_of (book_in c.args.regions.now c.args.mem.now) c.args.region.now.id) c.requires.live in
    let going = some_at _ is c.loop-offset.invariant.taken in
    let size : r.size ≡ c.args.region.now.size =
    some_at (λ (r : RegionRecord). r.size ≡ c.args.region.now.size) is c.requires.size in
    let text : lines_of (λ o. encode_lower (byte_at c.args.mem.now (byte_place r o) ∷ [])) c.args.region.now.size 0
    ≡ encode_lower (map (λ o. byte_at c.args.mem.now (byte_place r o)) (range_with_len 0 r.size)) =
    range_taken (λ o. byte_at c.args.mem.now (byte_place r o)) c.args.region.now.size 0
    ∙ ap (λ n. encode_lower (map (λ o. byte_at c.args.mem.now (byte_place r o)) (range_with_len 0 n))) (sym size) in
    some_from _ is
    (subst (MovedOn (g.O.Sink.taken c.args.sink.now) (g.O.Sink.taken c.loop-offset.sink) c.args.pieces.now
    c.loop-offset.pieces) text
    (takes_ended c.pieces_law.ensures g.O.Sink.taken g.O.Sink.faults _ _ _ _ _ _ _ _ going (omega arith)))
