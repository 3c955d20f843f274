use Rattle.std.proofs.Common.{◌++◌, arith, subst}
use Rattle.nk_host.specs.PiecesOut.{MovedOn}
use Rattle.nk_host.specs.Taken.{AppendsPrefix}
use Rattle.report_text.proofs.LineParts.{bytes_taken}
use Rattle.report_text.proofs.TakenUp.{takes_ended, takes_on, takes_were_cut}
use Rattle.report_text.proofs.call_lines.take_bytes.Goals as goal

pub returns-in-Err-clause-cut : goal.returns-in-Err-clause-cut
returns-in-Err-clause-cut g c =
    let cut = takes_were_cut c.pieces_law.ensures g.O.Sink.taken g.O.Sink.faults _ _ _ _ _ _ _ _ c.loop-at.invariant
    c.push_hex.new.sink (omega arith) c.in-Err.ensures.cut in
    subst (λ l. AppendsPrefix (g.O.Sink.taken c.args.sink.now) (g.O.Sink.taken c.push_hex.new.sink)
    (c.args.pieces.now ++ l)) (bytes_taken c.args.bytes.now) cut

pub loop-at-preserved : goal.loop-at-preserved
loop-at-preserved g c =
    takes_on c.pieces_law.ensures g.O.Sink.taken g.O.Sink.faults _ _ _ _ _ _ _ _ c.loop-at.invariant c.push_hex.new.sink
    c.push_hex.new.self (omega arith)
    c.in_default.ensures.moved c.push_hex.ensures.never_falls

pub returns-clause-moved : goal.returns-clause-moved
returns-clause-moved g c =
    subst (MovedOn (g.O.Sink.taken c.args.sink.now) (g.O.Sink.taken c.loop-at.sink) c.args.pieces.now c.loop-at.pieces)
    (bytes_taken c.args.bytes.now)
    (takes_ended c.pieces_law.ensures g.O.Sink.taken g.O.Sink.faults _ _ _ _ _ _ _ _ c.loop-at.invariant (omega arith))
