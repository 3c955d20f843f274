use Rattle.std.proofs.Common.{◌≡◌, ◌<◌, ℕ, true, sym, ◌∙◌}
use Rattle.std.proofs.lemmas.Bool.{ltb-true}
use Rattle.nk_bits.specs.Kinds.{kind_of}
use Rattle.phys_mem.specs.MaskedMemory.{seen}
use Rattle.phys_mem.specs.Memory.{entry_in}
use Rattle.page_desc.specs.DescriptorBytes.{descriptors_in, kinds_in}
use Rattle.page_desc.specs.PageTables.{is_table}
use Rattle.vmmu.proofs.CarriedRules.{remove_carried}
use Rattle.vmmu.proofs.HeldTables.{table_shown}
use Rattle.vmmu.proofs.tables.Tables4.remove_table.Goals as goal

pub returns-in-Some-clause-judged : goal.returns-in-Some-clause-judged
returns-in-Some-clause-judged c =
    let same : (f i : ℕ) → i < 512 → is_table (kind_of (kinds_in c.args.mem.now) f) ≡ true
    → entry_in c.args.mem.now f i ≡ entry_in (seen c.args.mem.now) f i =
    λ f i small table. c.held_tables_law.ensures.entries c.args.self.now.frames c.args.self.now.root f i c.args.mem.now c.requires.books small
    (table_shown (kind_of (kinds_in c.args.mem.now) f) (ltb-true 0 _ table)) in
    sym c.in-Some.is ∙ c.judge_remove.ensures.judged
    ∙ remove_carried c.page_tables_law.ensures (descriptors_in c.args.mem.now) c.args.self.now.root (seen c.args.mem.now) c.requires.books.described c.args.mem.now same c.args.frame

pub clear_table-requires-clause-rule : goal.clear_table-requires-clause-rule
clear_table-requires-clause-rule c =
    let same : (f i : ℕ) → i < 512 → is_table (kind_of (kinds_in c.args.mem.now) f) ≡ true
    → entry_in c.args.mem.now f i ≡ entry_in (seen c.args.mem.now) f i =
    λ f i small table. c.held_tables_law.ensures.entries c.args.self.now.frames c.args.self.now.root f i c.args.mem.now c.requires.books small
    (table_shown (kind_of (kinds_in c.args.mem.now) f) (ltb-true 0 _ table)) in
    sym (sym c.in_default.is ∙ c.judge_remove.ensures.judged
    ∙ remove_carried c.page_tables_law.ensures (descriptors_in c.args.mem.now) c.args.self.now.root (seen c.args.mem.now) c.requires.books.described c.args.mem.now same c.args.frame)

pub returns-clause-judged : goal.returns-clause-judged
returns-clause-judged c =
    let same : (f i : ℕ) → i < 512 → is_table (kind_of (kinds_in c.args.mem.now) f) ≡ true
    → entry_in c.args.mem.now f i ≡ entry_in (seen c.args.mem.now) f i =
    λ f i small table. c.held_tables_law.ensures.entries c.args.self.now.frames c.args.self.now.root f i c.args.mem.now c.requires.books small
    (table_shown (kind_of (kinds_in c.args.mem.now) f) (ltb-true 0 _ table)) in
    sym c.in_default.is ∙ c.judge_remove.ensures.judged
    ∙ remove_carried c.page_tables_law.ensures (descriptors_in c.args.mem.now) c.args.self.now.root (seen c.args.mem.now) c.requires.books.described c.args.mem.now same c.args.frame
