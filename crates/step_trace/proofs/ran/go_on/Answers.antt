use Rattle.std.proofs.Common.{ap, sym, ◌∙◌, arith}
use Rattle.gate_state.specs.declared.moves.Move.{Move}
use Rattle.gate_state.specs.MachineOf.{whole_of}
use Rattle.step_trace.specs.AddressesRan.{begun_by, begun_in}
use Rattle.step_trace.proofs.AddressesNoted.{none_hurried, one_hurried}
use Rattle.step_trace.proofs.ran.go_on.Goals as goal

pub returns-then-turns-clause-next : goal.returns-then-turns-clause-next
returns-then-turns-clause-next c =
    let h = c.hurry-hurried.ensures.hurried in
    (one_hurried c.args.plan.now (whole_of c.args.machine).opening (whole_of c.args.machine).state (whole_of c.hurry-hurried.result).state
    h.steps h.quiet h.turns (omega (arith, c.if-turns.true, c.turns.ensures, c.turns-turns.ensures))
    (omega (arith, c.turns-turns.ensures, h.within))).0

pub returns-then-turns-clause-begun : goal.returns-then-turns-clause-begun
returns-then-turns-clause-begun c =
    let h = c.hurry-hurried.ensures.hurried in
    let one = one_hurried c.args.plan.now (whole_of c.args.machine).opening (whole_of c.args.machine).state
    (whole_of c.hurry-hurried.result).state h.steps h.quiet h.turns
    (omega (arith, c.if-turns.true, c.turns.ensures, c.turns-turns.ensures)) (omega (arith, c.turns-turns.ensures, h.within)) in
    c.begins_at-begins.ensures ∙ ap (λ (m : Move). begun_by m (whole_of c.args.machine).state.processor) (sym one.1)

pub returns-clause-begun : goal.returns-clause-begun
returns-clause-begun c =
    let h = c.hurry-hurried.ensures.hurried in
    c.step_on.ensures.begun
    ∙ ap (begun_in c.args.plan.now)
    (none_hurried c.args.plan.now (whole_of c.args.machine).opening (whole_of c.args.machine).state (whole_of c.hurry-hurried.result).state
    h.steps h.quiet h.turns (omega (arith, c.if-turns.false, c.turns.ensures, c.turns-turns.ensures)))
