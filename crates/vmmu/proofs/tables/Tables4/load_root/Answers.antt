use Rattle.std.proofs.Common.{sym, ◌∙◌}
use Rattle.phys_mem.specs.MaskedMemory.{seen}
use Rattle.page_desc.specs.DescriptorBytes.{kinds_in}
use Rattle.vmmu.proofs.tables.Tables4.load_root.Goals as goal

pub returns-clause-books : goal.returns-clause-books
returns-clause-books c = record {
  stored = c.requires.books.stored;
  described = record {
    sound = (c.table_calls_law.ensures.loaded (kinds_in c.args.mem.now) c.args.self.now.root c.args.frame (seen c.args.mem.now) c.requires.books.described.sound
        (sym (c.judge_root.ensures.judged c.args.self.now.root (seen c.args.mem.now)) ∙ c.in_default.is)).1;
    counted = c.requires.books.described.counted;
  };
  hidden = c.requires.books.hidden;
}
