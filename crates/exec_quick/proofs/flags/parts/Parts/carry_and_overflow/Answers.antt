use Rattle.std.proofs.Common.{arith, ap, ◌∙◌}
use Rattle.x86_alu.specs.SignedNumbers.{bit}
use Rattle.exec_quick.proofs.flags.parts.Parts.carry_and_overflow.Goals as goal

pub returns-clause-overflow : goal.returns-clause-overflow
returns-clause-overflow c =
    ap (λ n. bit n 11) c.with_flag.ensures ∙ c.flag_law.ensures.others 11 0 c.with_flag-word.result c.is_carry.result (omega arith)
    ∙ ap (λ n. bit n 11) c.with_flag-word.ensures ∙ c.flag_law.ensures.same 11 0 c.is_overflow.result ∙ c.is_overflow.ensures
