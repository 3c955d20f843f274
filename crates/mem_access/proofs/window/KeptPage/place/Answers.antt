use Rattle.std.proofs.Common.{arith}
use Rattle.mem_access.proofs.Spans.{few_bytes}
use Rattle.mem_access.proofs.window.KeptPage.place.Goals as goal

pub returns-then-ahead-self-clause-one : goal.returns-then-ahead-self-clause-one
returns-then-ahead-self-clause-one c = λ width few. few_bytes c.args.va width (omega (arith, c.requires.room, c.requires.page (omega arith))) few
