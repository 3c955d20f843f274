use Rattle.std.proofs.Common.{◌*◌, ◌+◌, ◌-◌, ◌/◌, ◌%◌, ◌<◌, arith, ap, sym, length, map, ◌∙◌}
use Rattle.std.proofs.Math.ListN.{get_or-map}
use Rattle.std.proofs.lemmas.List.{length-map}
use Rattle.elf_image.specs.WrittenHeaders.{byte_in_fields, file_header}
use Rattle.code_modules.specs.JoinedFile.{part_header}
use Rattle.code_modules.specs.PartWords.{as_file_part}
use Rattle.code_modules.proofs.FilePlaces.{head_byte, table_at}
use Rattle.code_modules.proofs.file.headers_byte.Goals as goal

pub returns-then-at-lt-HEADER_SIZE : goal.returns-then-at-lt-HEADER_SIZE
returns-then-at-lt-HEADER_SIZE c =
    c.file_header_byte.ensures
    ∙ ap (λ n. byte_in_fields (file_header c.args.entry n) c.args.at) (sym (length-map c.args.parts.now as_file_part))
    ∙ sym (head_byte c.args.entry c.args.at (map as_file_part c.args.parts.now) c.if-at-lt-HEADER_SIZE.true)

pub returns : goal.returns
returns c =
    let count = length-map c.args.parts.now as_file_part in
    let inside : c.args.at < 64 + 56 * length (map as_file_part c.args.parts.now) = omega arith in
    c.header_byte.ensures
    ∙ sym (ap (λ p. byte_in_fields (part_header p) ((c.args.at - 64) % 56)) (get_or-map as_file_part c.args.parts.now ((c.args.at - 64) / 56) _))
    ∙ sym (table_at c.args.entry c.args.at (map as_file_part c.args.parts.now) _ c.if-at-lt-HEADER_SIZE.false inside)
