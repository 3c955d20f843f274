use Rattle.std.proofs.Common.{◌≤◌, ◌++◌, drop, length, decimal, codes, rules, arith, ap, ◌∙◌}
use Rattle.std.proofs.lemmas.Fmt.{length-decimal-le}
use Rattle.report_text.specs.RunLines.{kind_line, kind_word}
use Rattle.report_text.proofs.LineRoom.{last_place}
use Rattle.report_text.proofs.changed_lines.kind_line.Goals as goal

pub write_digits-digits-requires : goal.write_digits-digits-requires
write_digits-digits-requires c =
    let short : length (decimal c.from.result) ≤ 10 =
    length-decimal-le 10 c.from.result (omega arith) (omega arith) (omega arith) in
    search (rules, short)

pub put-start-requires-clause-room : goal.put-start-requires-clause-room
put-start-requires-clause-room c =
    let short : length (decimal c.from.result) ≤ 10 =
    length-decimal-le 10 c.from.result (omega arith) (omega arith) (omega arith) in
    omega (arith, short)

pub returns : goal.returns
unfolding kind_line
returns c =
    c.split_at.ensures.back
    ∙ c.put-start.ensures.written ∙ ap (λ l. codes "f " ++ l) (c.write_digits-digits.ensures.written
    ∙ ap (λ n. decimal n ++ drop c.put-frame_end.result c.put-frame_end.new.room) c.from.ensures
    ∙ ap (λ l. decimal c.args.frame ++ l) (c.put-frame_end.ensures.written
    ∙ ap (λ l. codes " " ++ l) (c.put_kind-word.ensures.written
    ∙ ap (λ l. kind_word c.args.kind ++ l) (last_place c.args.room.now 21 10 (omega arith)))))
