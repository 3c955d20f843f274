use Rattle.std.proofs.Common.{◌++◌, decimal, drop, ap, arith, ◌∙◌}
use Rattle.report_text.specs.RunSummary.{counts_line}
use Rattle.report_text.proofs.LineRoom.{last_place}
use Rattle.report_text.proofs.counts.two_counts.Goals as goal

pub returns : goal.returns
unfolding counts_line
returns c =
    c.split_at.ensures.back ∙ c.put-start.ensures.written
    ∙ ap (λ l. l ++ drop c.put_decimal-first_digits.result c.put_decimal-first_digits.new.room) c.as_bytes-2.ensures.value
    ∙ ap (λ l. c.args.word.now ++ l) (c.put_decimal-first_digits.ensures.written
    ∙ ap (λ l. decimal c.args.first ++ l) (c.put-first_end.ensures.written
    ∙ ap (λ l. l ++ drop c.put_decimal-second_digits.result c.put_decimal-second_digits.new.room) c.as_bytes.ensures.value
    ∙ ap (λ l. c.args.between.now ++ l) (c.put_decimal-second_digits.ensures.written
    ∙ ap (λ l. decimal c.args.second ++ l) (last_place c.args.room.now 60 10 (omega arith)))))
