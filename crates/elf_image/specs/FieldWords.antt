-- The code's fields, as the definition has them.
use Rattle.elf_image.specs.WrittenHeaders.{Field}
use Rattle.elf_image.specs.declared.written.WrittenField as code_field

abbrev pub as_field : code_field.WrittenField → Field
as_field f = record { place = f.place; count = f.count; number = f.number }
