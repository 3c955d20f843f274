use Rattle.std.proofs.Common.{◌≡◌, [], ℕ, List, inr, ap, ◌∙◌}
use Rattle.irq_plan.specs.declared.event.Event.{Event}
use Rattle.gate_state.specs.MachineOf.{whole_of}
use Rattle.gate_state.specs.MachineOpening.{opening_state}
use Rattle.gate_state.specs.MachineStates.{MachineState}
use Rattle.nk_run.specs.Outcome.{worked}
use Rattle.nk_run.specs.WorkSummary.{work_text}
use Rattle.nk_run.proofs.RunRows.{work_says}
use Rattle.nk_run.proofs.Texts.{put_written}
use Rattle.nk_run.proofs.work.work.Goals as goal

pub returns-in-Some-begin : goal.returns-in-Some-begin
returns-in-Some-begin g c = λ words shelf asked same.
    let image = c.in-Some.opened.image in
    let frames = c.in-Some.opened.layout.frames in
    let it = c.in-Some.ensures in
    let text : work_text 2000000 c.in-Some-quiet.plan (whole_of c.in-Some-begin.machine).state ≡ worked image =
    ap (λ (s : MachineState). work_text 2000000 c.in-Some-quiet.plan s) c.in-Some-begin.ensures.state
    ∙ ap (λ (plan : List Event). work_text 2000000 plan
    (opening_state (record { image = image; frames = frames }) c.new.result.items)) c.in-Some-quiet.ensures
    ∙ ap (λ (input : List ℕ). work_text 2000000 [] (opening_state (record { image = image; frames = frames }) input)) c.new.ensures.items
    ∙ ap (λ (n : ℕ). work_text 2000000 [] (opening_state (record { image = image; frames = n }) [])) it.frames_are in
    record {
      status = 0;
      text = worked image;
      says = inr (work_says words c.args.number asked image it.made shelf);
      written = put_written g.O.Sink.taken g.O.Sink.faults _ _ _ _ _ _ _ text c.count.ensures c.unless_cut.ensures;
      files_stay = same;
    }
