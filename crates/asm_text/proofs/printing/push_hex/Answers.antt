use Rattle.std.proofs.Common.{ap, length, arith}
use Rattle.std.proofs.lemmas.List.{length-append}
use Rattle.asm_text.specs.InstructionTexts.{hex_digits}
use Rattle.asm_text.proofs.HexDigits.{hex_short}
use Rattle.asm_text.proofs.printing.push_hex.Goals as goal

pub push_digits-requires : goal.push_digits-requires
push_digits-requires c = omega (arith, c.requires, hex_short c.args.number (omega arith))

pub returns-clause-room : goal.returns-clause-room
returns-clause-room c =
    omega (
      arith,
      ap length c.push_digits.ensures,
      length-append c.args.text.now.bytes (hex_digits c.args.number),
      hex_short c.args.number (omega arith),
    )
