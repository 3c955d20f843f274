use Rattle.std.proofs.Common.{◌≤◌, ◌++◌, drop, length, decimal, codes, rules, arith, ap, ◌∙◌}
use Rattle.std.proofs.lemmas.Fmt.{length-decimal-le}
use Rattle.report_text.specs.RunLines.{delivery_line, hex_16, hex_16_word, hex_word}
use Rattle.report_text.proofs.LineRoom.{last_place}
use Rattle.report_text.proofs.run_lines.delivery_line.Goals as goal

pub write_digits-vector-requires : goal.write_digits-vector-requires
write_digits-vector-requires c =
    let short : length (decimal c.from.result) ≤ 3 =
    length-decimal-le 3 c.from.result (omega arith) (omega arith) (omega arith) in
    search (rules, short)

pub put-start-requires-clause-room : goal.put-start-requires-clause-room
put-start-requires-clause-room c =
    let short : length (decimal c.from.result) ≤ 3 =
    length-decimal-le 3 c.from.result (omega arith) (omega arith) (omega arith) in
    omega (arith, short)

pub returns : goal.returns
unfolding delivery_line
returns c =
    let it = c.args.it.now in
    c.split_at.ensures.back
    ∙ c.put-start.ensures.written ∙ ap (λ l. codes "i " ++ l) (c.write_digits-vector.ensures.written
    ∙ ap (λ n. decimal n ++ drop c.put-vector_end.result c.put-vector_end.new.room) c.from.ensures
    ∙ ap (λ l. decimal it.vector ++ l) (c.put-vector_end.ensures.written
    ∙ ap (λ l. codes " " ++ l) (c.put_word-code.ensures.written
    ∙ ap (λ l. hex_word it.code ++ l) (c.put-code_end.ensures.written
    ∙ ap (λ l. codes " " ++ l) (c.put_16-rip.ensures.written
    ∙ ap (λ l. hex_16 it.rip ++ l) (c.put-rip_end.ensures.written
    ∙ ap (λ l. codes " " ++ l) (c.put_word_16-cr2.ensures.written
    ∙ ap (λ l. hex_16_word it.cr2 ++ l) (last_place c.args.room.now 56 10 (omega arith)))))))))
