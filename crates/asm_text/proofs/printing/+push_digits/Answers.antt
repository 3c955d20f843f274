use Rattle.std.proofs.Common.{◌%◌, ◌/◌, ◌++◌, [], ◌∷◌, length, false, ap, ◌∙◌, arith}
use Rattle.std.specs.Fmt.{digit_glyph}
use Rattle.std.proofs.lemmas.List.{length-append}
use Rattle.asm_text.proofs.HexDigits.{behind_one, behind_more, hex_longer, hex_one_long}
use Rattle.asm_text.specs.InstructionTexts.{hex_digits}
use Rattle.asm_text.proofs.printing.+push_digits.Goals as goal

pub push_digit-requires-clause-room : goal.push_digit-requires-clause-room
push_digit-requires-clause-room t c =
    omega (arith, c.requires, hex_one_long c.args.number c.if-number-lt16.true)

pub push_digits-requires : goal.push_digits-requires
push_digits-requires t c = (
  omega (arith, c.decreases, c.if-number-lt16.false),
  omega (arith, c.requires, hex_longer c.args.number (omega (arith, c.if-number-lt16.false)) (omega arith)),
)

pub push_digit-requires-else-number-lt16-clause-room : goal.push_digit-requires-else-number-lt16-clause-room
push_digit-requires-else-number-lt16-clause-room t c =
    omega (
      arith,
      c.requires,
      hex_longer c.args.number (omega (arith, c.if-number-lt16.false)) (omega arith),
      ap length c.push_digits.ensures,
      length-append c.args.text.now.bytes (hex_digits (c.args.number / 16)),
    )

pub returns-then-number-lt16 : goal.returns-then-number-lt16
returns-then-number-lt16 t c =
    c.push_digit.ensures ∙ behind_one c.args.text.now.bytes c.args.number c.if-number-lt16.true

pub returns-else-number-lt16 : goal.returns-else-number-lt16
returns-else-number-lt16 t c =
    c.push_digit-else-number-lt16.ensures
    ∙ (ap (λ bytes. bytes ++ (digit_glyph false (c.args.number % 16) ∷ [])) c.push_digits.ensures
    ∙ behind_more c.args.text.now.bytes c.args.number (omega (arith, c.if-number-lt16.false)) (omega arith))
