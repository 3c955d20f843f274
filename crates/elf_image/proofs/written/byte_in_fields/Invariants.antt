use Rattle.std.proofs.Common.{◌≡◌, map, drop}
use Rattle.elf_image.specs.FieldWords.{as_field}
use Rattle.elf_image.specs.WrittenHeaders.{byte_in_fields}
use Rattle.elf_image.proofs.written.byte_in_fields.Given as goal

abbrev pub invariant-loop-field : goal.invariant-loop-field
invariant-loop-field l =
    byte_in_fields (map as_field l.fields) l.at ≡ byte_in_fields (map as_field (drop l.field-index l.fields)) l.at
