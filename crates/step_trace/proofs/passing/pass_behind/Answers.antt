use Rattle.std.proofs.Common.{sym, ◌∙◌}
use Rattle.gate_state.specs.MachineOf.{real_of}
use Rattle.step_trace.proofs.PassedRests.{ends_over, goes_over}
use Rattle.step_trace.proofs.passing.pass_behind.Goals as goal

pub returns-in-Some : goal.returns-in-Some
returns-in-Some g c = λ h quiet.
    ends_over quiet.from c.requires.passes quiet.silent c.pass-last.ensures.passed g.O.Sink.taken g.O.Sink.faults
    (real_of c.pass-last.result.0) c.in-Some.why c.standing_law.ensures.real (sym c.pass-last.ensures.why ∙ c.in-Some.is) c.end.ensures

pub returns-in-None : goal.returns-in-None
returns-in-None g c = λ h quiet.
    goes_over quiet.from c.requires.passes quiet.silent c.pass-last.ensures.passed g.O.Sink.taken g.O.Sink.faults
    c.args.sink.now (real_of c.pass-last.result.0) c.standing_law.ensures.real (sym c.pass-last.ensures.why ∙ c.in-None.is)
