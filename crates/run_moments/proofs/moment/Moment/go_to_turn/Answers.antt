use Rattle.std.proofs.Common.{arith}
use Rattle.run_moments.proofs.GoingOn.{fewer_before}
use Rattle.run_moments.proofs.moment.Moment.go_to_turn.Goals as goal

pub go_through-requires : goal.go_through-requires
go_through-requires c =
    fewer_before c.moves_law.ensures c.args.self.run c.args.turns c.args.self.steps
    (omega (arith, c.turns.ensures.turns, c.if-turns.true))
