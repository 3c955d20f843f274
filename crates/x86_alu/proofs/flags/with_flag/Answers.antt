use Rattle.std.proofs.Common.{rules, ◌≡◌}
use Rattle.x86_alu.specs.SignedNumbers.{one_if}
use Rattle.x86_alu.proofs.FlagBits.{by_masks}
use Rattle.x86_alu.proofs.flags.with_flag.Goals as goal

pub returns : goal.returns
returns c =
    let one : c.from.result ≡ one_if c.args.set = search rules in
    rw one (by_masks c.args.flags c.args.place c.args.set c.ranges.flags.fits c.requires)
