use Rattle.std.proofs.Common.{List, ℕ, suc, ap, subst, sym, ◌∙◌}
use Rattle.gate_state.specs.MachineOf.{whole_of}
use Rattle.step_trace.specs.AddressesRan.{begun_in}
use Rattle.step_trace.specs.RanSteps.{AreNoted}
use Rattle.step_trace.proofs.AddressesNoted.{next_noted, none_noted, said_ok}
use Rattle.step_trace.proofs.FirstStates.{begins_first, begins_way, one_behind, one_more}
use Rattle.step_trace.proofs.ran.go_through.Goals as goal

pub loop-machine-init : goal.loop-machine-init
loop-machine-init c =
    let first = (whole_of c.args.machine).state in
    let plan = c.args.plan.now in
    record {
      way = begins_way c.args.turns plan first;
      noted = subst (λ (n : ℕ). AreNoted c.args.image.now n plan first c.args.ran.now.keys) (sym (begins_first c.args.turns plan first))
          (none_noted c.args.image.now plan first c.args.ran.now.keys c.requires.none);
    }

pub loop-machine-preserved : goal.loop-machine-preserved
loop-machine-preserved c =
    let first = (whole_of c.args.machine).state in
    let plan = c.args.plan.now in
    let way = c.loop-machine.invariant.way in
    let more = one_more way (sym c.if-is_there.ensures) in
    let ran = said_ok c.note.result (sym c.is_err.ensures.value ∙ c.if-is_err.false) c.note.ensures.noted in
    let noted = next_noted c.args.image.now plan first way.steps c.loop-machine.ran.keys c.loop-machine.invariant.noted c.go_on-next.result.1
    (ap (begun_in plan) (sym way.state_is) ∙ sym c.go_on-next.ensures.begun) in
    record {
      way = record { steps = more.steps; state_is = c.go_on-next.ensures.next ∙ more.state_is; not_before = more.not_before };
      noted = subst (λ (n : ℕ). AreNoted c.args.image.now n plan first c.note.new.ran.keys) (sym (one_behind way (sym c.if-is_there.ensures)))
          (subst (λ (l : List ℕ). AreNoted c.args.image.now (suc way.steps) plan first l) (sym ran) noted);
    }
