use Rattle.std.proofs.Common.{◌≡◌, ◌≤◌, false, length, set, arith, sym, ap, subst, ◌∙◌}
use Rattle.nk_bits.specs.declared.kind.Kind.TheVariants.{Data}
use Rattle.nk_bits.specs.Kinds.{kind_of, level_of}
use Rattle.phys_mem.specs.MaskedMemory.{is_book_frame, seen}
use Rattle.phys_mem.specs.Memory.{entry_in}
use Rattle.page_desc.specs.DescriptorBytes.{HoldsDescriptors, HoldsTables, descriptors_in, kinds_in}
use Rattle.page_desc.specs.FrameDescriptors.{Descriptors, IsReplaceable, IsReplaced}
use Rattle.page_desc.specs.PageTables.{AreDescribed}
use Rattle.vmmu.specs.TableCalls.{memory_removed}
use Rattle.vmmu.proofs.CallFacts.{removable}
use Rattle.vmmu.proofs.CarriedCounts.{removed_described}
use Rattle.vmmu.proofs.HeldTables.{held_set, table_shown}
use Rattle.vmmu.proofs.tables.Tables4.clear_table.Goals as goal

pub seen_entry-old-requires-clause-shown : goal.seen_entry-old-requires-clause-shown
seen_entry-old-requires-clause-shown c =
    ap (is_book_frame c.args.self.now.frames) c.from.ensures
    ∙ c.held_tables_law.ensures.unhidden c.args.self.now.frames c.args.self.now.root c.args.table c.args.mem.now c.requires.books
    (table_shown (kind_of (kinds_in c.args.mem.now) c.args.table) (removable _ c.args.table c.requires.rule).table)

pub clear_frame-requires-clause-shown : goal.clear_frame-requires-clause-shown
clear_frame-requires-clause-shown c =
    c.held_tables_law.ensures.unhidden c.args.self.now.frames c.args.self.now.root c.args.table c.args.mem.now c.requires.books
    (table_shown (kind_of (kinds_in c.args.mem.now) c.args.table) (removable _ c.args.table c.requires.rule).table)

pub replace-requires-clause-counted : goal.replace-requires-clause-counted
replace-requires-clause-counted c =
    let call = removable _ c.args.table c.requires.rule in
    let count : length (kinds_in c.args.mem.now) ≡ c.args.self.now.frames =
    (c.stored_law.ensures.count c.args.self.now.frames c.args.mem.now c.requires.books.stored).0 in
    let most : length (kinds_in c.args.mem.now) ≤ 65536 = omega (arith, count, c.frames-frames.ensures.frames, c.frames-frames.ensures.bounds) in
    let level : c.level_at-level.result ≡ level_of (kind_of (kinds_in c.args.mem.now) c.args.table) =
    c.level_at-level.ensures ∙ (λ j. level_of (kind_of (c.clear_frame.ensures.descriptors j).kinds (c.from-2.ensures j))) in
    let old : c.seen_entry-old.result.0 ≡ entry_in (seen c.args.mem.now) c.args.table 511 =
    c.seen_entry-old.ensures ∙ ap (λ f. entry_in (seen c.args.mem.now) f 511) c.from.ensures in
    subst (IsReplaceable c.level_at-level.result c.seen_entry-old.result.0 0) (sym c.clear_frame.ensures.descriptors)
    (subst (λ level. IsReplaceable level c.seen_entry-old.result.0 0 (descriptors_in c.args.mem.now)) (sym level)
    (subst (λ old. IsReplaceable (level_of (kind_of (kinds_in c.args.mem.now) c.args.table)) old 0 (descriptors_in c.args.mem.now)) (sym old)
    (c.descriptor_law.ensures.replaceable (descriptors_in c.args.mem.now) (entry_in (seen c.args.mem.now)) c.args.table 511 0
    c.requires.books.described.counted c.requires.books.described.sound.slot most call.table (omega arith))))

pub returns-clause-memory : goal.returns-clause-memory
returns-clause-memory c =
    c.stored_law.ensures.unseen c.replace.new.self c.replace.new.mem c.set_kind.new.mem c.replace.ensures.held c.set_kind.ensures.elsewhere
    ∙ c.stored_law.ensures.unseen c.args.self.now.frames c.clear_frame.new.mem c.replace.new.mem c.clear_frame.ensures.held c.replace.ensures.elsewhere
    ∙ c.clear_frame.ensures.seen

pub returns-clause-books : goal.returns-clause-books
returns-clause-books c =
    let call = removable _ c.args.table c.requires.rule in
    let level : c.level_at-level.result ≡ level_of (kind_of (kinds_in c.args.mem.now) c.args.table) =
    c.level_at-level.ensures ∙ (λ j. level_of (kind_of (c.clear_frame.ensures.descriptors j).kinds (c.from-2.ensures j))) in
    let old : c.seen_entry-old.result.0 ≡ entry_in (seen c.args.mem.now) c.args.table 511 =
    c.seen_entry-old.ensures ∙ ap (λ f. entry_in (seen c.args.mem.now) f 511) c.from.ensures in
    let shown : is_book_frame c.args.self.now.frames c.args.table ≡ false =
    c.held_tables_law.ensures.unhidden c.args.self.now.frames c.args.self.now.root c.args.table c.args.mem.now c.requires.books
    (table_shown (kind_of (kinds_in c.args.mem.now) c.args.table) (removable _ c.args.table c.requires.rule).table) in
    let memory : seen c.set_kind.new.mem ≡ memory_removed (seen c.args.mem.now) c.args.table =
    c.stored_law.ensures.unseen c.replace.new.self c.replace.new.mem c.set_kind.new.mem c.replace.ensures.held c.set_kind.ensures.elsewhere
    ∙ c.stored_law.ensures.unseen c.args.self.now.frames c.clear_frame.new.mem c.replace.new.mem c.clear_frame.ensures.held c.replace.ensures.elsewhere
    ∙ c.clear_frame.ensures.seen in
    let change : IsReplaced (level_of (kind_of (kinds_in c.args.mem.now) c.args.table)) (entry_in (seen c.args.mem.now) c.args.table 511) 0 (descriptors_in c.args.mem.now) (descriptors_in c.replace.new.mem) =
    subst (λ (d : Descriptors). IsReplaced (level_of (kind_of (kinds_in c.args.mem.now) c.args.table)) (entry_in (seen c.args.mem.now) c.args.table 511) 0 d (descriptors_in c.replace.new.mem)) c.clear_frame.ensures.descriptors
    (subst (λ level. IsReplaced level (entry_in (seen c.args.mem.now) c.args.table 511) 0 (descriptors_in c.clear_frame.new.mem) (descriptors_in c.replace.new.mem)) level
    (subst (λ old. IsReplaced c.level_at-level.result old 0 (descriptors_in c.clear_frame.new.mem) (descriptors_in c.replace.new.mem)) old c.replace.ensures.replaced)) in
    let described : AreDescribed (descriptors_in c.set_kind.new.mem) c.args.self.now.root (seen c.set_kind.new.mem) =
    subst (λ (d : Descriptors). AreDescribed d c.args.self.now.root (seen c.set_kind.new.mem)) (sym c.set_kind.ensures.set)
    (subst (AreDescribed (record (descriptors_in c.replace.new.mem) { kinds = set (kinds_in c.replace.new.mem) c.args.table Data }) c.args.self.now.root) (sym memory)
    (removed_described c.descriptor_law.ensures c.memory_tables_law.ensures (descriptors_in c.args.mem.now) c.args.self.now.root (seen c.args.mem.now) c.requires.books.described (descriptors_in c.replace.new.mem) c.args.table
    call (c.sound_law.ensures.slot (kinds_in c.args.mem.now) (entry_in (seen c.args.mem.now)) c.args.table c.requires.books.described.sound.tables) change
    (c.table_calls_law.ensures.removed (kinds_in c.args.mem.now) c.args.self.now.root c.args.table (seen c.args.mem.now) c.requires.books.described.sound c.requires.rule).1)) in
    let kinds : kinds_in c.set_kind.new.mem ≡ set (kinds_in c.args.mem.now) c.args.table Data =
    ap (λ (d : Descriptors). d.kinds) c.set_kind.ensures.set ∙ ap (λ ks. set ks c.args.table Data) change.kinds in
    let stays : c.set_kind.new.self ≡ c.args.self.now.frames = c.set_kind.ensures.stays ∙ c.replace.ensures.stays in
    subst (λ frames. HoldsTables frames c.args.self.now.root c.set_kind.new.mem) (sym stays)
    (held_set c.args.self.now.frames c.args.self.now.root c.args.mem.now c.set_kind.new.mem c.requires.books
    (subst (λ frames. HoldsDescriptors frames c.set_kind.new.mem) stays c.set_kind.ensures.held) described c.args.table Data shown kinds)
