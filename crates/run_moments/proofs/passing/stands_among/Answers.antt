use Rattle.std.proofs.Common.{◌∙◌}
use Rattle.run_moments.proofs.StopsPassed.{among_any}
use Rattle.run_moments.proofs.passing.stands_among.Goals as goal

pub returns : goal.returns
returns c = c.contains.ensures.value ∙ among_any c.args.addresses.now c.args.address
