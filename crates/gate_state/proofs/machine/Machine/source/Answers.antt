use Rattle.std.proofs.Common.{sym, ap, ◌∙◌}
use Rattle.gate_state.specs.declared.machine.Machine.{Machine}
use Rattle.gate_state.specs.MachineOf.{whole_of}
use Rattle.gate_state.proofs.machine.Machine.source.Goals as goal

pub returns-in-Outer : goal.returns-in-Outer
returns-in-Outer c source took bytes =
    c.sourced.ensures source took (c.source.ensures ∙ (ap (λ (m : Machine). (whole_of m).source) (sym c.in-Outer.is) ∙ bytes))

pub returns-in-Gate : goal.returns-in-Gate
returns-in-Gate c source took bytes =
    c.sourced-in-Gate.ensures source took (c.source-in-Gate.ensures ∙ (ap (λ (m : Machine). (whole_of m).source) (sym c.in-Gate.is) ∙ bytes))

pub returns-in-Nested : goal.returns-in-Nested
returns-in-Nested c source took bytes =
    c.sourced-in-Nested.ensures source took (c.source-in-Nested.ensures ∙ (ap (λ (m : Machine). (whole_of m).source) (sym c.in-Nested.is) ∙ bytes))
