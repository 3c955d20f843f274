use Rattle.std.proofs.Common.{◌≡◌, ap, ◌∙◌}
use Rattle.x86_alu.specs.SignedNumbers.{cut}
use Rattle.x86_alu.specs.Flags.{result_flags, with_flag}
use Rattle.x86_alu.specs.Sums.{has_carry, sum_of, sum_overflows}
use Rattle.exec_quick.specs.StatusFlags.{flags_word}
use Rattle.exec_quick.proofs.FlagWords.{carries_put}
use Rattle.exec_quick.proofs.flags.parts.Parts.sum.Goals as goal

pub returns-clause-flags : goal.returns-clause-flags
returns-clause-flags c =
    let w = c.args.width in
    let a = cut w c.args.a in
    let b = cut w c.args.b in
    let n = flags_word c.args.self.now in
    let results : flags_word c.put_result.new.self ≡ result_flags w (sum_of w a b c.args.carry) n =
    c.put_result.ensures ∙ ap (λ value. result_flags w value n) c.add-it.ensures.value in
    let overflowed = c.put_overflow.ensures ∙ ap (λ set. with_flag 11 set (flags_word c.put_result.new.self)) c.sum_overflow.ensures in
    let halved = c.put_auxiliary.ensures ∙ ap (λ set. with_flag 4 set (flags_word c.put_overflow.new.self)) c.half_carry.ensures in
    let carried = c.put_carry.ensures ∙ ap (λ set. with_flag 0 set (flags_word c.put_auxiliary.new.self)) c.bit.ensures in
    carries_put c.flag_law.ensures w (sum_of w a b c.args.carry) n c.add-it.result.flags (has_carry w a b c.args.carry) (has_carry 4 (cut 4 a) (cut 4 b) c.args.carry) (sum_overflows w a b c.args.carry)
    (flags_word c.put_result.new.self) (flags_word c.put_overflow.new.self) (flags_word c.put_auxiliary.new.self)
    (flags_word c.put_carry.new.self) c.add-it.ensures.flags results overflowed halved carried
