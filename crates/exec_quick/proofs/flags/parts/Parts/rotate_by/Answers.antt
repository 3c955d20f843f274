use Rattle.std.proofs.Common.{◌≡◌, ◌==◌, ℕ, false, rules, ap, ◌∙◌}
use Rattle.x86_alu.specs.SignedNumbers.{cut}
use Rattle.x86_alu.specs.Flags.{with_flag}
use Rattle.x86_alu.specs.Shifts.{masked_count, rotate_flags, rotated}
use Rattle.exec_quick.specs.StatusFlags.{flags_word}
use Rattle.exec_quick.proofs.FlagWords.{rotation_put}
use Rattle.exec_quick.proofs.flags.parts.Parts.rotate_by.Goals as goal

pub returns-then-is_counted-clause-flags : goal.returns-then-is_counted-clause-flags
returns-then-is_counted-clause-flags c =
    let w : ℕ = c.args.width in
    let count : ℕ = masked_count w (cut 8 c.args.count) in
    let value : ℕ = rotated c.args.left w (cut w c.args.a) count in
    let it : ℕ = c.rotate-it.result.flags in
    let after : ℕ = flags_word c.put_overflow.new.self in
    let same = c.carry_and_overflow.ensures in
    let is : it ≡ rotate_flags c.args.left w value count c.carry_and_overflow.result = search rules in
    let some : (count == 0) ≡ false = search rules in
    rotation_put c.flag_law.ensures c.args.left w value count (flags_word c.args.self.now) c.carry_and_overflow.result some
    same.carry same.overflow it after (flags_word c.put_carry.new.self) is
    (c.put_overflow.ensures ∙ ap (λ set. with_flag 11 set (flags_word c.args.self.now)) c.raised.ensures)
    (c.put_carry.ensures ∙ ap (λ set. with_flag 0 set after) c.bit.ensures)
