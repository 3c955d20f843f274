use Rattle.std.proofs.Common.{◌≡◌, ◌==◌, ℕ, false, rules, ap, ◌∙◌}
use Rattle.x86_alu.specs.SignedNumbers.{bit, cut}
use Rattle.x86_alu.specs.Flags.{result_flags, with_flag}
use Rattle.x86_alu.specs.Shifts.{masked_count, shift_flags, shifted}
use Rattle.exec_quick.specs.StatusFlags.{flags_word}
use Rattle.exec_quick.proofs.FlagWords.{shift_put}
use Rattle.exec_quick.proofs.flags.parts.Parts.shift_by.Goals as goal

pub returns-then-is_counted-clause-flags : goal.returns-then-is_counted-clause-flags
returns-then-is_counted-clause-flags c =
    let w : ℕ = c.args.width in
    let a : ℕ = cut w c.args.a in
    let count : ℕ = masked_count w (cut 8 c.args.count) in
    let n : ℕ = flags_word c.args.self.now in
    let small : ℕ = c.carry_and_overflow.result in
    let some : (count == 0) ≡ false = search rules in
    let found : c.shift-it.result.flags ≡ shift_flags c.args.kind w a count small = search rules in
    let value : c.shift-it.result.value ≡ shifted c.args.kind w a count = search rules in
    let results : flags_word c.put_result.new.self ≡ result_flags w (shifted c.args.kind w a count) n =
    c.put_result.ensures ∙ ap (λ it. result_flags w it n) value in
    let overflowed : flags_word c.put_overflow.new.self ≡ with_flag 11 (bit c.shift-it.result.flags 11) (flags_word c.put_result.new.self) =
    c.put_overflow.ensures ∙ ap (λ set. with_flag 11 set (flags_word c.put_result.new.self)) c.raised.ensures in
    let carried : flags_word c.put_carry.new.self ≡ with_flag 0 (bit c.shift-it.result.flags 0) (flags_word c.put_overflow.new.self) =
    c.put_carry.ensures ∙ ap (λ set. with_flag 0 set (flags_word c.put_overflow.new.self)) c.bit.ensures in
    shift_put c.flag_law.ensures c.args.kind w a count n small some c.carry_and_overflow.ensures.carry
    c.carry_and_overflow.ensures.overflow c.shift-it.result.flags (flags_word c.put_result.new.self)
    (flags_word c.put_overflow.new.self) (flags_word c.put_carry.new.self) found results overflowed carried
