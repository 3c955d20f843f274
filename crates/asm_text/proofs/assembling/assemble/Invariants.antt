use Rattle.std.proofs.Common.{◌≡◌, ◌+◌, ◌≤◌, length}
use Rattle.text_lines.specs.TextLines.{lines}
use Rattle.asm_text.specs.AssembledText.{assembled_of, code_before, code_from}
use Rattle.asm_text.proofs.assembling.assemble.Given as goal

-- the code so far, before what the rest gives, is what the whole text gives
abbrev pub invariant-loop-rest : goal.invariant-loop-rest
invariant-loop-rest l = record {
  so_far : assembled_of l.text ≡ code_before l.code.items (code_from l.number (lines l.rest));
  few : l.number + length l.rest ≤ 1 + length l.text;
}

abbrev pub decreases-loop-rest : goal.decreases-loop-rest
decreases-loop-rest l = length l.rest
