use Rattle.gate_state.specs.MachineOpening.{opening_state}
use Rattle.gate_state.specs.MachineSteps.{state}
use Rattle.nk_run.proofs.laws.safe_law.Goals as goal

pub returns : goal.returns
returns c = λ o input plan admitted in_form. record {
  safe = λ k. c.safety_law.ensures.safe o input plan k admitted in_form;
  guarded = λ k. c.safety_law.ensures.guarded o input plan k admitted in_form;
  delivers = λ k.
      c.safety_law.ensures.delivers o (state plan (opening_state o input) k) admitted
      (c.safety_law.ensures.guarded o input plan k admitted in_form);
  nested = λ k. c.safety_law.ensures.nested o input plan k admitted in_form;
  called = λ n k. c.safety_law.ensures.called o input plan n k admitted in_form;
  comes_back = λ n. c.safety_law.ensures.comes_back o input plan n admitted in_form;
  window = c.safety_law.ensures.window o input plan admitted in_form;
}
