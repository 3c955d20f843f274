use Rattle.std.proofs.Common.{ℕ, ◌∷◌, [], subst}
use Rattle.hex.specs.Hex.{encode_lower}
use Rattle.gdb_packets.specs.Sendings.{IsTakenUp}
use Rattle.gdb_packets.proofs.Sent.{both_parts, cut_first}
use Rattle.gdb_packets.proofs.put.push_rest.Goals as goal

pub returns-in-Ok : goal.returns-in-Ok
returns-in-Ok g c =
    both_parts c.pieces_law.ensures g.O.Sink.taken g.O.Sink.faults _ _ _ _ _ _ _ _ _ c.in-Ok.ensures.moved
    c.in-Ok.ensures.never_falls
    (subst (λ (sum : ℕ). IsTakenUp g.O.Sink.taken g.O.Sink.faults c.push_body.new.sink c.push_sum.new.sink
    c.push_body.new.pieces c.push_sum.new.pieces (0x23 ∷ encode_lower (sum ∷ [])) c.push_sum.result) c.sum_sent.ensures
    c.push_sum.ensures)

pub returns-in-Err : goal.returns-in-Err
returns-in-Err g c =
    cut_first c.pieces_law.ensures g.O.Sink.taken g.O.Sink.faults _ _ _ _ _ _ _ c.in-Err.ensures
