use Rattle.std.proofs.Common.{ap, ◌∙◌}
use Rattle.x86_decode.specs.Reader.{decoded_of}
use Rattle.x86_regs.specs.declared.registers.Regs.{Regs}
use Rattle.step_trace.specs.CodePlaces.{bytes_judged}
use Rattle.step_trace.specs.StepLines.{Code}
use Rattle.step_trace.proofs.ToldPlaces.{none_told, whole_told}
use Rattle.step_trace.proofs.code.told_code.Goals as goal
use Rattle.step_trace.proofs.code.told_code.Goals.{in-Whole, in-Short}

-- what the bytes decode to, and all of them where that is nothing
pub returns : goal.returns
returns c =
    let p = c.args.cpu.now in
    let m = c.args.mem.now in
    let bytes = c.told_bytes-bytes.result.items in
    let are = c.told_bytes-bytes.ensures ∙ ap (λ (regs : Regs). bytes_judged p m regs.rip 15) c.regs.ensures in
    let value = c.decode.ensures.value ∙ ap decoded_of c.as_slice.ensures.value in
    elim c.match-decode.branch [
      | in-Whole w ↦ ap (λ x. Code x.0.items x.1.0) w.result-is ∙ whole_told p m bytes w.truncate.new.self.items w.in-Whole.instr w.in-Whole.size c.decode.result are value w.in-Whole.is w.truncate.ensures.items
      | in-Short w ↦ ap (λ x. Code x.0.items x.1.0) w.result-is ∙ none_told p m bytes c.decode.result are value w.in-Short.is
    ]
