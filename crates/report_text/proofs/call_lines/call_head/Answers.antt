use Rattle.std.proofs.Common.{◌++◌, false, codes, arith, ap, ◌∙◌}
use Rattle.std.specs.Fmt.{digits}
use Rattle.report_text.proofs.LineRoom.{last_place}
use Rattle.report_text.proofs.call_lines.call_head.Goals as goal

pub returns : goal.returns
returns c =
    let call = c.args.call.now in
    c.split_at.ensures.back
    ∙ c.put-start.ensures.written ∙ ap (λ l. codes "k " ++ l) (c.put_least-number.ensures.written
    ∙ ap (λ l. digits 16 false call.number ++ l) (c.put-number_end.ensures.written
    ∙ ap (λ l. codes " " ++ l) (c.put_arguments-words.ensures.written
    ∙ ap (λ l. digits 16 false call.a ++ (codes " " ++ (digits 16 false call.b
    ++ (codes " " ++ (digits 16 false call.c ++ (codes " " ++ (digits 16 false call.d ++ l)))))))
    (last_place c.args.room.now 86 32 (omega arith)))))
