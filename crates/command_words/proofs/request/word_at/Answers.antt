use Rattle.std.proofs.Common.{arith, sym}
use Rattle.command_words.proofs.Forms.{no_word}
use Rattle.command_words.proofs.request.word_at.Goals as goal

pub returns-else-place-words : goal.returns-else-place-words
returns-else-place-words c = sym (no_word c.args.words.now c.args.place (omega arith))
