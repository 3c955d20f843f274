use Rattle.std.proofs.Common.{◌≡◌, rules, ap, ◌∙◌, not}
use Rattle.x86_alu.specs.SignedNumbers.{one_if}
use Rattle.x86_alu.specs.Flags.{even_parity}
use Rattle.exec_quick.proofs.FlagWords.{parity_of}
use Rattle.exec_quick.proofs.flags.parts.even_where.Goals as goal

pub returns : goal.returns
returns c =
    let is : c.from.result ≡ one_if (not c.args.set) = search rules in
    ap even_parity is ∙ parity_of c.args.set
