use Rattle.std.proofs.Common.{◌≡◌, ap, ◌∙◌}
use Rattle.x86_alu.specs.SignedNumbers.{cut}
use Rattle.x86_alu.specs.Flags.{result_flags, with_flag}
use Rattle.x86_alu.specs.Sums.{difference_of, difference_overflows, has_borrow}
use Rattle.exec_quick.specs.StatusFlags.{flags_word}
use Rattle.exec_quick.proofs.FlagWords.{carries_put}
use Rattle.exec_quick.proofs.flags.parts.Parts.difference.Goals as goal

pub returns-clause-flags : goal.returns-clause-flags
returns-clause-flags c =
    let w = c.args.width in
    let a = cut w c.args.a in
    let b = cut w c.args.b in
    let n = flags_word c.args.self.now in
    let results : flags_word c.put_result.new.self ≡ result_flags w (difference_of w a b c.args.borrow) n =
    c.put_result.ensures ∙ ap (λ value. result_flags w value n) c.sub-it.ensures.value in
    let overflowed = c.put_overflow.ensures ∙ ap (λ set. with_flag 11 set (flags_word c.put_result.new.self)) c.difference_overflow.ensures in
    let halved = c.put_auxiliary.ensures ∙ ap (λ set. with_flag 4 set (flags_word c.put_overflow.new.self)) c.half_borrow.ensures in
    let carried = c.put_carry.ensures ∙ ap (λ set. with_flag 0 set (flags_word c.put_auxiliary.new.self)) c.bit.ensures in
    carries_put c.flag_law.ensures w (difference_of w a b c.args.borrow) n c.sub-it.result.flags (has_borrow a b c.args.borrow) (has_borrow (cut 4 a) (cut 4 b) c.args.borrow) (difference_overflows w a b c.args.borrow)
    (flags_word c.put_result.new.self) (flags_word c.put_overflow.new.self) (flags_word c.put_auxiliary.new.self)
    (flags_word c.put_carry.new.self) c.sub-it.ensures.flags results overflowed halved carried
