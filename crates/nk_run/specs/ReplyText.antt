-- The bytes of a line.
use Rattle.std.specs.Prelude.{ℕ, List}
use Rattle.std.specs.String.{string_bytes}
use Rattle.nk_run.specs.declared.reply.Line.{Line}
use Rattle.nk_run.specs.declared.reply.Line.TheVariants.{Fixed, Made, Short}

abbrev pub line_bytes : Line → List ℕ
line_bytes (Fixed text) = text.now
line_bytes (Made text) = string_bytes text
line_bytes (Short bytes) = bytes
