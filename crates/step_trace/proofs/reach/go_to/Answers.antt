use Rattle.std.proofs.Common.{refl, sym, ◌∙◌, arith}
use Rattle.gate_state.specs.MachineOf.{whole_of}
use Rattle.step_trace.proofs.FirstStates.{begins_way, fewer_left, hurried_way, opening_stepped, reached, step_way, turns_below}
use Rattle.step_trace.proofs.reach.go_to.Goals as goal

pub loop-machine-init : goal.loop-machine-init
loop-machine-init c = record {
  way = begins_way c.args.limit c.args.plan.now (whole_of c.args.machine).state;
  opening = refl;
}

pub returns-then-is_there-clause-reached : goal.returns-then-is_there-clause-reached
returns-then-is_there-clause-reached c = reached c.loop-machine.invariant.way (sym c.if-is_there.ensures)

pub returns-then-is_there-clause-opening : goal.returns-then-is_there-clause-opening
returns-then-is_there-clause-opening c = c.loop-machine.invariant.opening

pub returns-then-is_there-2-clause-reached : goal.returns-then-is_there-2-clause-reached
returns-then-is_there-2-clause-reached c =
    reached (hurried_way (c.moves_law.ensures c.args.plan.now) (sym c.if-is_there.ensures) c.hurry-hurried.ensures.hurried c.loop-machine.invariant.way)
    (sym c.if-is_there-2.ensures)

pub returns-then-is_there-2-clause-opening : goal.returns-then-is_there-2-clause-opening
returns-then-is_there-2-clause-opening c = c.hurry-hurried.ensures.hurried.opening ∙ c.loop-machine.invariant.opening

pub step-next-requires : goal.step-next-requires
step-next-requires c =
    let below = turns_below c.args.limit c.args.plan.now (whole_of c.hurry-hurried.result).state (sym c.if-is_there-2.ensures) in
    record { turns = omega (arith, below, c.requires.limit) }

pub loop-machine-smaller : goal.loop-machine-smaller
loop-machine-smaller c =
    fewer_left (c.moves_law.ensures c.args.plan.now) c.hurry-hurried.ensures.hurried (sym c.if-is_there-2.ensures) c.step-next.ensures.next

pub loop-machine-preserved : goal.loop-machine-preserved
loop-machine-preserved c = record {
  way = step_way (whole_of c.hurry-hurried.result) (sym c.if-is_there-2.ensures) c.step-next.ensures.next
      (hurried_way (c.moves_law.ensures c.args.plan.now) (sym c.if-is_there.ensures) c.hurry-hurried.ensures.hurried c.loop-machine.invariant.way);
  opening = opening_stepped c.args.plan.now (whole_of c.hurry-hurried.result) c.step-next.ensures.next
      ∙ (c.hurry-hurried.ensures.hurried.opening ∙ c.loop-machine.invariant.opening);
}
