use Rattle.std.proofs.Common.{◌≡◌, ◌++◌, ℕ, List, Ok}
use Rattle.std.specs.Prelude.{⊤}
use Rattle.step_trace.specs.AddressesRan.{ran_text}
use Rattle.step_trace.specs.TracesPut.{IsTaken}
use Rattle.step_trace.proofs.ran.put_addresses.Given as goal

abbrev pub invariant-loop-address : goal.invariant-loop-address
invariant-loop-address g l = record {
  text : List ℕ;
  so : IsTaken {A = ⊤} g.O.Sink.taken g.O.Sink.faults l.initial.sink l.sink text (Ok tt);
  left : text ++ ran_text l.address-iterator ≡ ran_text l.ran.keys;
}
