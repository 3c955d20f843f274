use Rattle.std.proofs.Common.{[]}
use Rattle.std.specs.Prelude.{⊤}
use Rattle.gate_state.specs.MachineOf.{whole_of}
use Rattle.step_trace.proofs.AddressesNoted.{none_ran}
use Rattle.step_trace.proofs.TakenTexts.{none_cut}
use Rattle.step_trace.proofs.ran.put_ran.Goals as goal

pub returns-then-is_err : goal.returns-then-is_err
returns-then-is_err g c = record {
  steps = 0;
  whole = tt;
  addresses = [];
  ran = none_ran c.args.image.now c.args.plan.now (whole_of c.args.machine).state;
  is_taken = none_cut g.O.Sink.taken g.O.Sink.faults ⊤ c.args.sink.now [];
}
