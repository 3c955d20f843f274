use Rattle.text_lines.proofs.WordLemmas.{last_word, next_word}
use Rattle.text_lines.proofs.words.split_words.Goals as goal

pub loop-word-preserved : goal.loop-word-preserved
loop-word-preserved c =
    next_word c.args.line.now c.loop-word.rest.now c.in-Some.behind.now c.loop-word.found.items
    c.try_push.new.self.items c.in-Some.word c.loop-word.invariant c.in-Some.ensures c.in_default-try_push.ensures.ok

pub returns : goal.returns
returns c =
    last_word c.args.line.now c.loop-word.found.items c.try_push-2.new.self.items c.loop-word.rest
    c.loop-word.invariant c.in_default.ensures c.in_default-try_push-2.ensures.ok
