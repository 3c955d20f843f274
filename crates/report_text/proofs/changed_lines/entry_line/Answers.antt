use Rattle.std.proofs.Common.{ℕ, ◌≤◌, ◌<◌, ◌^◌, ◌++◌, drop, length, decimal, codes, rules, arith, ap, ◌∙◌}
use Rattle.std.proofs.lemmas.Fmt.{length-decimal-le}
use Rattle.report_text.specs.RunLines.{entry_line, hex_16}
use Rattle.report_text.proofs.LineRoom.{last_place}
use Rattle.report_text.proofs.changed_lines.entry_line.Goals as goal

ten : (n : ℕ) → n < 2 ^ 32 → length (decimal n) ≤ 10
ten n small = length-decimal-le 10 n (omega arith) (omega (arith, small)) (omega (arith, small))

pub write_digits-index_digits-requires : goal.write_digits-index_digits-requires
write_digits-index_digits-requires c = let short = ten c.from.result (omega arith) in search (rules, short)

pub put-frame_end-requires-clause-room : goal.put-frame_end-requires-clause-room
put-frame_end-requires-clause-room c = let short = ten c.from.result (omega arith) in omega (arith, short)

pub write_digits-digits-requires : goal.write_digits-digits-requires
write_digits-digits-requires c =
    let index = ten c.from.result (omega arith) in
    let short = ten c.from-2.result (omega arith) in
    (omega (arith, index, short), omega arith)

pub put-start-requires-clause-room : goal.put-start-requires-clause-room
put-start-requires-clause-room c =
    let index = ten c.from.result (omega arith) in
    let short = ten c.from-2.result (omega arith) in
    omega (arith, index, short)

pub returns : goal.returns
unfolding entry_line
returns c =
    c.split_at.ensures.back
    ∙ c.put-start.ensures.written ∙ ap (λ l. codes "t " ++ l) (c.write_digits-digits.ensures.written
    ∙ ap (λ n. decimal n ++ drop c.put-frame_end.result c.put-frame_end.new.room) c.from-2.ensures
    ∙ ap (λ l. decimal c.args.frame ++ l) (c.put-frame_end.ensures.written
    ∙ ap (λ l. codes " " ++ l) (c.write_digits-index_digits.ensures.written
    ∙ ap (λ n. decimal n ++ drop c.put-index_end.result c.put-index_end.new.room) c.from.ensures
    ∙ ap (λ l. decimal c.args.index ++ l) (c.put-index_end.ensures.written
    ∙ ap (λ l. codes " " ++ l) (c.put_16-word.ensures.written
    ∙ ap (λ l. hex_16 c.args.value ++ l) (last_place c.args.room.now 40 10 (omega arith)))))))
