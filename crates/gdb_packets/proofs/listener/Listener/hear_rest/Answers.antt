use Rattle.std.proofs.Common.{ℕ, ◌∷◌, [], List, ap, ◌∙◌}
use Rattle.text_lines.specs.Numerals.{numeral}
use Rattle.gdb_packets.specs.BytesHeard.{left_of}
use Rattle.gdb_packets.specs.Packets.{heard_by, is_sum}
use Rattle.gdb_packets.proofs.Hearings.{pair_none, pair_some, rest_heard, rest_short, sought_to}
use Rattle.gdb_packets.proofs.listener.Listener.hear_rest.Goals as goal

pub returns-in-Some-clause-heard : goal.returns-in-Some-clause-heard
returns-in-Some-clause-heard g c =
    rest_heard (left_of g.S.Source.left c.args.self.now) (left_of g.S.Source.left c.gather.new.self)
    (left_of g.S.Source.left c.pair.new.self) c.gather.new.bytes.items c.in-Some.high c.in-Some.low c.judge.result
    (sought_to 0x23 _ _ _ c.in_ok-gather.field-0 c.if-not-branch.false c.in_ok-gather.ensures.sought)
    (pair_some _ _ c.in_ok-high.field-0 c.in-Some.high c.in-Some.low c.in-Some.is c.in_ok-high.ensures.pair)
    (c.judge.ensures
    ∙ ap (λ (body : List ℕ). heard_by (is_sum body (numeral 16 2 (c.in-Some.high ∷ c.in-Some.low ∷ [])))) c.as_slice.ensures.value)

pub returns-in-None-clause-heard : goal.returns-in-None-clause-heard
returns-in-None-clause-heard g c =
    rest_short (left_of g.S.Source.left c.args.self.now) (left_of g.S.Source.left c.gather.new.self)
    (left_of g.S.Source.left c.pair.new.self) c.gather.new.bytes.items
    (sought_to 0x23 _ _ _ c.in_ok-gather.field-0 c.if-not-branch.false c.in_ok-gather.ensures.sought)
    (pair_none _ _ c.in_ok-high.field-0 c.in-None.is c.in_ok-high.ensures.pair)
