use Rattle.std.proofs.Common.{◌++◌, drop, decimal, codes, arith, ap, ◌∙◌}
use Rattle.report_text.specs.SlotLines.{slot_line}
use Rattle.report_text.proofs.LineRoom.{last_place}
use Rattle.report_text.proofs.list_lines.slot_line.Goals as goal

pub returns : goal.returns
unfolding slot_line
returns c =
    c.split_at.ensures.back ∙ c.put-start.ensures.written
    ∙ ap (λ l. l ++ drop c.put_decimal-digits.result c.put_decimal-digits.new.room) c.as_bytes.ensures.value
    ∙ ap (λ l. c.args.word.now ++ l) (c.put_decimal-digits.ensures.written
    ∙ ap (λ l. decimal c.args.number ++ l) (c.put-number_end.ensures.written
    ∙ ap (λ l. codes " " ++ l) (c.put_decimal-place.ensures.written
    ∙ ap (λ n. decimal n ++ drop c.put-slot_end.result c.put-slot_end.new.room) c.from.ensures
    ∙ ap (λ l. decimal c.args.slot ++ l) (c.put-slot_end.ensures.written
    ∙ ap (λ l. codes " " ++ l) (c.put_decimal-process.ensures.written
    ∙ ap (λ l. decimal c.args.pid ++ l) (last_place c.args.room.now 64 10 (omega arith)))))))
