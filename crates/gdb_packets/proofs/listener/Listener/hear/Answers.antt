use Rattle.std.proofs.Common.{ℕ, List, Option}
use Rattle.gdb_packets.specs.BytesHeard.{IsHeardBy, IsRestHeard, left_of}
use Rattle.gdb_packets.proofs.Hearings.{all_heard, none_heard, ok_all, sought_all, sought_to}
use Rattle.gdb_packets.proofs.listener.Listener.hear.Goals as goal

pub returns-clause-heard : goal.returns-clause-heard
returns-clause-heard g c =
    let before : Option (List ℕ) = left_of g.S.Source.left c.args.self.now in
    let middle : Option (List ℕ) = left_of g.S.Source.left c.pass_over.new.self in
    let passed = c.in_ok-pass_over.ensures.passed in
    let after : Option (List ℕ) = left_of g.S.Source.left c.hear_rest.new.self in
    let body : List ℕ = c.hear_rest.new.body.items in
    ok_all c.hear_rest.result (IsRestHeard middle after body) (IsHeardBy before after body)
    (λ heard rest. all_heard before middle after passed.noise body heard
    (sought_to 0x24 before middle passed.noise c.in_ok-pass_over.field-0 c.if-not-branch.false passed.sought)
    rest)
    c.hear_rest.ensures.heard

pub returns-then-not-branch-clause-heard : goal.returns-then-not-branch-clause-heard
returns-then-not-branch-clause-heard g c =
    let passed = c.in_ok-pass_over.ensures.passed in
    none_heard (left_of g.S.Source.left c.args.self.now) (left_of g.S.Source.left c.pass_over.new.self) passed.noise
    c.clear.new.self.items (sought_all 0x24 _ _ passed.noise c.in_ok-pass_over.field-0 c.if-not-branch.true passed.sought)
