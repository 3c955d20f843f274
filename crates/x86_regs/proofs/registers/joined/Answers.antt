use Rattle.std.proofs.Common.{◌≡◌, ◌*◌, ◌/◌, ◌%◌, ◌^◌, arith}
use Rattle.std.proofs.Math.Nat.{mod-eq_of_lt}
use Rattle.std.proofs.lemmas.Nat.{or_shifted, shr_split}
use Rattle.x86_regs.proofs.registers.joined.Goals as goal

pub returns : goal.returns
returns c =
    let high = c.args.above / 2 ^ c.args.width in
    let whole = shr_split c.args.above c.args.width in
    let fits : high * 2 ^ c.args.width % 2 ^ 64 ≡ high * 2 ^ c.args.width = mod-eq_of_lt (omega arith) in
    rw fits (or_shifted high c.args.width c.args.below c.requires.fits)
