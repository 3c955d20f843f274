use Rattle.std.proofs.Common.{arith, subst, sym}
use Rattle.std.specs.Prelude.{Some}
use Rattle.nk_bits.specs.Translations.{NamesFramesIn}
use Rattle.access_tests.proofs.access.changes.keep_table.Goals as goal

pub returns : goal.returns
returns c = record {
  frames = subst (NamesFramesIn 65536) (sym c.keep.ensures.kept) (c.named_law.ensures.entry_kept 65536 c.args.tlb.now 2 0 (Some _) c.requires.frames (omega arith));
}
