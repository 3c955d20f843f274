use Rattle.std.proofs.Common.{arith, subst, sym}
use Rattle.nk_bits.specs.Translations.{NamesFramesIn}
use Rattle.access_tests.proofs.access.changes.keep_page.Goals as goal

pub returns : goal.returns
returns c = record {
  frames = subst (NamesFramesIn 65536) (sym c.fill.ensures.filled) (c.named_law.ensures.filled 65536 c.args.tlb.now c.args.page _ c.requires.frames (omega arith));
}
