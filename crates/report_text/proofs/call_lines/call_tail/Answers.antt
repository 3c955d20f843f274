use Rattle.std.proofs.Common.{◌++◌, decimal, codes, arith, ap, ◌∙◌}
use Rattle.report_text.specs.RunLines.{hex_16_word}
use Rattle.report_text.proofs.LineRoom.{last_place}
use Rattle.report_text.proofs.call_lines.call_tail.Goals as goal

pub returns : goal.returns
returns c =
    let it = c.args.answer.now in
    c.split_at.ensures.back
    ∙ c.put-start.ensures.written ∙ ap (λ l. codes " " ++ l) (c.put_decimal-value.ensures.written
    ∙ ap (λ l. decimal it.value ++ l) (c.put-value_end.ensures.written
    ∙ ap (λ l. codes " " ++ l) (c.put_word_16-place.ensures.written
    ∙ ap (λ l. hex_16_word it.place ++ l) (last_place c.args.room.now 38 10 (omega arith)))))
