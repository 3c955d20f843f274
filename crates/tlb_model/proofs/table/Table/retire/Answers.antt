use Rattle.std.proofs.Common.{ap, subst, sym, ◌∙◌}
use Rattle.tlb_model.specs.SlotBuckets.{empty_slot}
use Rattle.tlb_model.specs.TranslationTable.{IsTable, pairs_of}
use Rattle.tlb_model.proofs.Retired.{empty_is_free, retired_pairs, retired_table}
use Rattle.tlb_model.proofs.table.Table.retire.Goals as goal

pub remove-requires : goal.remove-requires
remove-requires c = record { chained = c.requires.table.chained; slot = c.requires.slot; kept = c.requires.kept; page = sym c.page_at-page.ensures }

pub release-requires : goal.release-requires
release-requires c =
    record { order = c.requires.table.ordered; slot = c.requires.slot; taken = sym (c.requires.table.taken c.args.at c.requires.slot) ∙ c.requires.kept }

pub returns-clause-table : goal.returns-clause-table
returns-clause-table c =
    subst IsTable (sym c.empty_at.ensures) (retired_table c.args.self.now c.args.at c.requires.table c.requires.kept c.remove.new.self c.release.new.self
    (c.remove.ensures.chained empty_slot (empty_is_free c.args.self.now.generation)) c.release.ensures.order c.release.ensures.count c.release.ensures.free
    c.release.ensures.others)

pub returns-clause-dropped : goal.returns-clause-dropped
returns-clause-dropped c =
    ap pairs_of c.empty_at.ensures ∙ retired_pairs c.args.self.now c.args.at c.requires.table c.requires.kept c.remove.new.self c.release.new.self
