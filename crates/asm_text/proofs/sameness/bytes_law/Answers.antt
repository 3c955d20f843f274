use Rattle.std.proofs.Common.{◌<◌, arith}
use Rattle.std.proofs.lemmas.List.Elements.{All-from_get_or}
use Rattle.asm_text.proofs.TestedBytes.{bytes_pass}
use Rattle.asm_text.proofs.sameness.bytes_law.Goals as goal

pub returns : goal.returns
returns c =
    bytes_pass c.args.bytes.now
    (All-from_get_or (λ b. b < 256) c.args.bytes.now 0 (λ i within. omega (arith, c.type_inv.bytes i)))
