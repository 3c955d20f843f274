use Rattle.std.proofs.Common.{sym, ◌∙◌}
use Rattle.phys_mem.specs.MaskedMemory.{seen}
use Rattle.page_desc.specs.DescriptorBytes.{descriptors_in}
use Rattle.vmmu.proofs.CarriedRules.{declare_carried}
use Rattle.vmmu.proofs.tables.Tables4.declare_table.Goals as goal

pub returns-in-Some-clause-judged : goal.returns-in-Some-clause-judged
returns-in-Some-clause-judged c =
    sym c.in-Some.is ∙ c.judge_declare.ensures.judged
    ∙ declare_carried c.page_tables_law.ensures (descriptors_in c.args.mem.now) c.args.self.now.root (seen c.args.mem.now) c.requires.books.described c.args.level c.args.frame

pub make_table-requires-clause-rule : goal.make_table-requires-clause-rule
make_table-requires-clause-rule c =
    sym (sym c.in_default.is ∙ c.judge_declare.ensures.judged
    ∙ declare_carried c.page_tables_law.ensures (descriptors_in c.args.mem.now) c.args.self.now.root (seen c.args.mem.now) c.requires.books.described c.args.level c.args.frame)

pub returns-clause-judged : goal.returns-clause-judged
returns-clause-judged c =
    sym c.in_default.is ∙ c.judge_declare.ensures.judged
    ∙ declare_carried c.page_tables_law.ensures (descriptors_in c.args.mem.now) c.args.self.now.root (seen c.args.mem.now) c.requires.books.described c.args.level c.args.frame
