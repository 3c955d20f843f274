use Rattle.std.proofs.Common.{◌≡◌, ◌++◌, map, length}
use Rattle.text_lines.specs.TextLines.{words}
use Rattle.text_lines.proofs.words.split_words.Given as goal

abbrev pub invariant-loop-word : goal.invariant-loop-word
invariant-loop-word l = words l.line ≡ map (λ word. word.now) l.found.items ++ words l.rest

abbrev pub decreases-loop-word : goal.decreases-loop-word
decreases-loop-word l = length l.rest
