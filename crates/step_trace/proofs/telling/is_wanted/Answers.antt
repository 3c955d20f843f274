use Rattle.std.proofs.Common.{◌∙◌}
use Rattle.step_trace.proofs.WantedLines.{line_wanted}
use Rattle.step_trace.proofs.telling.is_wanted.Goals as goal

pub returns : goal.returns
returns c plan h next outer is told =
    c.is_step_wanted.ensures
    ∙ line_wanted c.args.shown.now plan h next c.args.in_outer c.args.step.now c.args.told outer is told
