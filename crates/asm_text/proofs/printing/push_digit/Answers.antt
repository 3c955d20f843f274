use Rattle.std.proofs.Common.{length, ap, arith}
use Rattle.std.proofs.lemmas.Str.{encode_ascii}
use Rattle.asm_text.proofs.printing.push_digit.Goals as goal

pub push-requires : goal.push-requires
push-requires c =
    omega (arith, c.requires.room, ap length (encode_ascii c.hex_digit.result c.hex_digit.ensures.ascii))
