use Rattle.std.proofs.Common.{◌++◌, drop, decimal, codes, arith, ap, ◌∙◌}
use Rattle.report_text.specs.RunLines.{hex_16}
use Rattle.report_text.proofs.LineRoom.{last_place}
use Rattle.report_text.proofs.ledger_lines.region_head.Goals as goal

pub returns : goal.returns
returns c =
    let it = c.args.region.now in
    c.split_at.ensures.back
    ∙ c.put-start.ensures.written ∙ ap (λ l. codes "r " ++ l) (c.put_decimal-id.ensures.written
    ∙ ap (λ l. decimal it.id ++ l) (c.put-id_end.ensures.written
    ∙ ap (λ l. codes " " ++ l) (c.put_decimal-policy.ensures.written
    ∙ ap (λ n. decimal n ++ drop c.put-policy_end.result c.put-policy_end.new.room) c.from-2.ensures
    ∙ ap (λ l. decimal it.policy ++ l) (c.put-policy_end.ensures.written
    ∙ ap (λ l. codes " " ++ l) (c.put_16-first.ensures.written
    ∙ ap (λ l. hex_16 it.place ++ l) (c.put-first_end.ensures.written
    ∙ ap (λ l. codes " " ++ l) (c.put_decimal-size.ensures.written
    ∙ ap (λ l. decimal c.from.result ++ l) (last_place c.args.room.now 81 32 (omega arith))
    ∙ ap (λ n. decimal n ++ codes " ") c.from.ensures)))))))
