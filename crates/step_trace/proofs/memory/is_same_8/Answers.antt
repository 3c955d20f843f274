use Rattle.std.proofs.Common.{◌∙◌, sym}
use Rattle.std.proofs.lemmas.Bool.{eqb-true}
use Rattle.step_trace.proofs.SameFrames.{number_same}
use Rattle.step_trace.proofs.memory.is_same_8.Goals as goal

pub returns : goal.returns
returns c = λ same. number_same 8 c.args.at c.args.copy.now c.args.mem.now c.requires.bytes.1 c.requires.bytes.0
    (sym c.load64-2.ensures ∙ sym (eqb-true c.load64.result c.load64-2.result same) ∙ c.load64.ensures)
