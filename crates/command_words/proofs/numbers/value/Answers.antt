use Rattle.std.proofs.Common.{◌∙◌}
use Rattle.command_words.proofs.Numerals.{parsed}
use Rattle.command_words.proofs.numbers.value.Goals as goal

pub returns : goal.returns
returns c = c.ok.ensures.value ∙ parsed c.args.radix c.args.word.now c.from_str_radix.result c.requires.high c.requires.numeral c.from_str_radix.ensures.value
