use Rattle.std.proofs.Common.{◌≤◌, ◌++◌, drop, length, decimal, rules, arith, ap, ◌∙◌}
use Rattle.std.proofs.lemmas.Fmt.{length-decimal-le}
use Rattle.report_text.proofs.LineRoom.{last_place}
use Rattle.report_text.proofs.words.numbered.Goals as goal

pub write_digits-digits-requires : goal.write_digits-digits-requires
write_digits-digits-requires c =
    let short : length (decimal c.args.number) ≤ 20 =
    length-decimal-le 20 c.args.number (omega arith) (omega arith) (omega arith) in
    search (rules, short)

pub put-start-requires-clause-room : goal.put-start-requires-clause-room
put-start-requires-clause-room c =
    let short : length (decimal c.args.number) ≤ 20 =
    length-decimal-le 20 c.args.number (omega arith) (omega arith) (omega arith) in
    omega (arith, short)

pub returns : goal.returns
returns c =
    c.split_at.ensures.back ∙ c.put-start.ensures.written
    ∙ ap (λ l. l ++ drop c.write_digits-digits.result c.write_digits-digits.new.buf) c.as_bytes.ensures.value
    ∙ ap (λ l. c.args.word.now ++ l) (c.write_digits-digits.ensures.written
    ∙ ap (λ l. decimal c.args.number ++ l) (last_place c.args.room.now 31 10 (omega arith)))
