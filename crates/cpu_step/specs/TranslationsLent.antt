-- How the processor lends its translations.
use Rattle.std.specs.Borrow.{Fml, MutBor, Lends}
use Rattle.nk_bits.specs.Translations.{Translations}
use Rattle.tlb_model.specs.contracts.translations.Tlb.{the_row as translations_row}
use Rattle.cpu_step.specs.contracts.processor.Cpu.{the_row}
use Rattle.cpu_step.specs.Processor.{Processor}

-- the processor with these translations
abbrev pub with_translations : Processor → Translations → Processor
with_translations p tlb = record p { tlb = tlb }

-- once r has ended, s is as it was, but for its translations, which are the last ones behind r
abbrev pub LendsTranslations : MutBor Processor → MutBor Translations → Fml
LendsTranslations s r = Lends the_row translations_row s r (with_translations s.now)
