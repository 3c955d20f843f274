use Rattle.std.proofs.Common.{◌++◌, codes, arith, ap, ◌∙◌}
use Rattle.hex.specs.Hex.{encode_lower}
use Rattle.report_text.specs.ListingLines.{code_line}
use Rattle.report_text.specs.RunLines.{hex_16}
use Rattle.report_text.proofs.LineRoom.{last_place}
use Rattle.report_text.proofs.code_listing.code_line.Goals as goal

pub returns : goal.returns
unfolding code_line
returns c =
    c.split_at.ensures.back ∙ c.put_16-start.ensures.written
    ∙ ap (λ l. hex_16 c.args.address ++ l) (c.put-address_end.ensures.written
    ∙ ap (λ l. codes " " ++ l) (c.put_bytes-digits.ensures.written
    ∙ ap (λ l. encode_lower c.args.bytes.now ++ l) (c.put-bytes_end.ensures.written
    ∙ ap (λ l. codes " " ++ l) (c.put-words.ensures.written
    ∙ ap (λ l. c.args.text.now ++ l) (last_place c.args.room.now 191 10 (omega arith))))))
