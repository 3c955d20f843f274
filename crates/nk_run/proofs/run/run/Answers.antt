use Rattle.std.proofs.Common.{ap, inr}
use Rattle.gate_state.specs.MachineOpening.{opening_state}
use Rattle.gate_state.specs.MachineStates.{MachineState, Opening}
use Rattle.nk_run.specs.RunStates.{run_text}
use Rattle.nk_run.proofs.RunRows.{ran_says}
use Rattle.nk_run.proofs.Texts.{put_written}
use Rattle.nk_run.proofs.run.run.Goals as goal

pub returns-in-Err-clause-answered : goal.returns-in-Err-clause-answered
returns-in-Err-clause-answered g c = record {
  status = _;
  text = _;
  says = inr c.in-Err.ensures.ready;
  written = c.write.ensures.written;
  files_stay = c.make_ready.ensures.files_stay;
}

pub drive-requires-clause-opening : goal.drive-requires-clause-opening
drive-requires-clause-opening g c = c.in-Some.ensures.opening

pub drive-requires-clause-steps : goal.drive-requires-clause-steps
drive-requires-clause-steps g c = c.in-Ok.ensures.ready.bounded

pub returns-in-Some-clause-answered : goal.returns-in-Some-clause-answered
returns-in-Some-clause-answered g c =
    let ready = c.in-Ok.ready in
    let it = c.in-Ok.ensures.ready in
    let o : Opening = record { image = ready.opened.image; frames = ready.opened.layout.frames } in
    let text_is = ap (λ (s : MachineState). run_text o ready.steps ready.plan s) c.in-Some.ensures.state in
    record {
      status = 0;
      text = run_text o ready.steps ready.plan (opening_state o ready.input.items);
      says = inr (ran_says _ ready.steps ready.opened.layout.frames it.asked _ _ it.outcome_is);
      written = put_written g.O.Sink.taken g.O.Sink.faults _ _ _ _ _ _ _ text_is c.drive.ensures c.unless_cut.ensures;
      files_stay = c.make_ready.ensures.files_stay;
    }
