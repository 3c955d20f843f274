use Rattle.std.proofs.Common.{◌≡◌, ◌≤◌, length, arith, sym, ap, subst, ◌∙◌}
use Rattle.nk_bits.specs.Kinds.{kind_of, level_of}
use Rattle.phys_mem.specs.MaskedMemory.{seen}
use Rattle.phys_mem.specs.Memory.{entry_in}
use Rattle.page_desc.specs.DescriptorBytes.{HoldsDescriptors, HoldsTables, descriptors_in, kinds_in}
use Rattle.page_desc.specs.FrameDescriptors.{Descriptors, IsReplaceable, IsReplaced}
use Rattle.page_desc.specs.PageTables.{AreDescribed}
use Rattle.vmmu.specs.TableCalls.{memory_written}
use Rattle.vmmu.proofs.CallFacts.{writable}
use Rattle.vmmu.proofs.CarriedCounts.{written_described}
use Rattle.vmmu.proofs.HeldTables.{held_written, table_shown}
use Rattle.vmmu.proofs.tables.Tables4.put_entry.Goals as goal

pub seen_entry-old-requires-clause-shown : goal.seen_entry-old-requires-clause-shown
seen_entry-old-requires-clause-shown c =
    c.held_tables_law.ensures.unhidden c.args.self.now.frames c.args.self.now.root c.args.frame c.args.mem.now c.requires.books
    (table_shown (kind_of (kinds_in c.args.mem.now) c.args.frame) (writable _ c.args.frame c.args.index c.args.value c.requires.rule).table)

pub store_entry-requires-clause-shown : goal.store_entry-requires-clause-shown
store_entry-requires-clause-shown c =
    c.held_tables_law.ensures.unhidden c.args.self.now.frames c.args.self.now.root c.args.frame c.args.mem.now c.requires.books
    (table_shown (kind_of (kinds_in c.args.mem.now) c.args.frame) (writable _ c.args.frame c.args.index c.args.value c.requires.rule).table)

pub replace-requires-clause-counted : goal.replace-requires-clause-counted
replace-requires-clause-counted c =
    let call = writable _ c.args.frame c.args.index c.args.value c.requires.rule in
    let count : length (kinds_in c.args.mem.now) ≡ c.args.self.now.frames =
    (c.stored_law.ensures.count c.args.self.now.frames c.args.mem.now c.requires.books.stored).0 in
    let most : length (kinds_in c.args.mem.now) ≤ 65536 = omega (arith, count, c.frames-frames.ensures.frames, c.frames-frames.ensures.bounds) in
    let level : c.level_at-level.result ≡ level_of (kind_of (kinds_in c.args.mem.now) c.args.frame) =
    c.level_at-level.ensures ∙ ap (λ (d : Descriptors). level_of (kind_of d.kinds c.args.frame)) c.store_entry.ensures.descriptors in
    subst (IsReplaceable c.level_at-level.result c.seen_entry-old.result.0 c.args.value) (sym c.store_entry.ensures.descriptors)
    (subst (λ level. IsReplaceable level c.seen_entry-old.result.0 c.args.value (descriptors_in c.args.mem.now)) (sym level)
    (subst (λ old. IsReplaceable (level_of (kind_of (kinds_in c.args.mem.now) c.args.frame)) old c.args.value (descriptors_in c.args.mem.now)) (sym c.seen_entry-old.ensures)
    (c.descriptor_law.ensures.replaceable (descriptors_in c.args.mem.now) (entry_in (seen c.args.mem.now)) c.args.frame c.args.index c.args.value
    c.requires.books.described.counted c.requires.books.described.sound.slot most call.table c.requires.index)))

pub returns-clause-memory : goal.returns-clause-memory
returns-clause-memory c =
    c.stored_law.ensures.unseen c.args.self.now.frames c.store_entry.new.mem c.replace.new.mem c.store_entry.ensures.held c.replace.ensures.elsewhere
    ∙ c.store_entry.ensures.seen

pub returns-clause-books : goal.returns-clause-books
returns-clause-books c =
    let call = writable _ c.args.frame c.args.index c.args.value c.requires.rule in
    let level : c.level_at-level.result ≡ level_of (kind_of (kinds_in c.args.mem.now) c.args.frame) =
    c.level_at-level.ensures ∙ ap (λ (d : Descriptors). level_of (kind_of d.kinds c.args.frame)) c.store_entry.ensures.descriptors in
    let memory : seen c.replace.new.mem ≡ memory_written (seen c.args.mem.now) c.args.frame c.args.index c.args.value =
    c.stored_law.ensures.unseen c.args.self.now.frames c.store_entry.new.mem c.replace.new.mem c.store_entry.ensures.held c.replace.ensures.elsewhere
    ∙ c.store_entry.ensures.seen in
    let change : IsReplaced (level_of (kind_of (kinds_in c.args.mem.now) c.args.frame)) (entry_in (seen c.args.mem.now) c.args.frame c.args.index) c.args.value
    (descriptors_in c.args.mem.now) (descriptors_in c.replace.new.mem) =
    subst (λ (d : Descriptors). IsReplaced (level_of (kind_of (kinds_in c.args.mem.now) c.args.frame)) (entry_in (seen c.args.mem.now) c.args.frame c.args.index) c.args.value d (descriptors_in c.replace.new.mem)) c.store_entry.ensures.descriptors
    (subst (λ level. IsReplaced level (entry_in (seen c.args.mem.now) c.args.frame c.args.index) c.args.value (descriptors_in c.store_entry.new.mem) (descriptors_in c.replace.new.mem)) level
    (subst (λ old. IsReplaced c.level_at-level.result old c.args.value (descriptors_in c.store_entry.new.mem) (descriptors_in c.replace.new.mem)) c.seen_entry-old.ensures c.replace.ensures.replaced)) in
    let described : AreDescribed (descriptors_in c.replace.new.mem) c.args.self.now.root (seen c.replace.new.mem) =
    subst (AreDescribed (descriptors_in c.replace.new.mem) c.args.self.now.root) (sym memory)
    (written_described c.descriptor_law.ensures c.memory_tables_law.ensures (descriptors_in c.args.mem.now) c.args.self.now.root (seen c.args.mem.now) c.requires.books.described (descriptors_in c.replace.new.mem) c.args.frame c.args.index c.args.value
    call c.ranges.value.fits change
    (c.table_calls_law.ensures.written (kinds_in c.args.mem.now) c.args.self.now.root c.args.frame c.args.index c.args.value (seen c.args.mem.now) c.requires.books.described.sound c.ranges.value.fits c.requires.rule).1) in
    subst (λ frames. HoldsTables frames c.args.self.now.root c.replace.new.mem) (sym c.replace.ensures.stays)
    (held_written c.args.self.now.frames c.args.self.now.root c.args.mem.now c.replace.new.mem c.requires.books
    (subst (λ frames. HoldsDescriptors frames c.replace.new.mem) c.replace.ensures.stays c.replace.ensures.held) described change.kinds)
