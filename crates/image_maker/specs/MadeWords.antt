-- The code's records, as the definition has them.
use Rattle.image_maker.specs.MadeImage.{ScriptRecord}
use Rattle.image_maker.specs.declared.record.ScriptRecord as code_record

abbrev pub as_script : code_record.ScriptRecord → ScriptRecord
as_script it = record { rdi = it.rdi; rsi = it.rsi; rdx = it.rdx; rcx = it.rcx; r8 = it.r8 }
