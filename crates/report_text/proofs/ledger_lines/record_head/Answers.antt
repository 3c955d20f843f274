use Rattle.std.proofs.Common.{◌++◌, decimal, codes, arith, ap, ◌∙◌}
use Rattle.report_text.proofs.LineRoom.{last_place}
use Rattle.report_text.proofs.ledger_lines.record_head.Goals as goal

pub returns : goal.returns
returns c =
    let it = c.args.it.now in
    c.split_at.ensures.back
    ∙ c.put-start.ensures.written ∙ ap (λ l. codes "l " ++ l) (c.put_decimal-digits.ensures.written
    ∙ ap (λ l. decimal c.args.number ++ l) (c.put-number_end.ensures.written
    ∙ ap (λ l. codes " " ++ l) (c.put_decimal-region.ensures.written
    ∙ ap (λ l. decimal it.region ++ l) (c.put-region_end.ensures.written
    ∙ ap (λ l. codes " " ++ l) (c.put_decimal-offset.ensures.written
    ∙ ap (λ l. decimal c.from.result ++ l) (last_place c.args.room.now 64 32 (omega arith))
    ∙ ap (λ n. decimal n ++ codes " ") c.from.ensures)))))
