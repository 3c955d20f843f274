use Rattle.std.proofs.Common.{◌≡◌, ◌≤◌, ◌+◌, ◌*◌, false, length, set, arith, sym, ap, subst, ◌∙◌}
use Rattle.nk_bits.specs.declared.kind.Kind.TheVariants.{Table}
use Rattle.nk_bits.specs.Kinds.{is_hidden}
use Rattle.phys_mem.specs.MaskedMemory.{is_book_frame, seen}
use Rattle.phys_mem.specs.Memory.{entry_in, stored, stores}
use Rattle.page_desc.specs.DescriptorBytes.{HoldsDescriptors, HoldsTables, descriptors_in, kinds_in}
use Rattle.page_desc.specs.FrameDescriptors.{Descriptors, IsReplaceable, IsReplaced, last_value}
use Rattle.page_desc.specs.PageTables.{AreDescribed}
use Rattle.vmmu.specs.TableCalls.{memory_declared}
use Rattle.vmmu.proofs.CallFacts.{declarable}
use Rattle.vmmu.proofs.CarriedCounts.{absent_zero, declared_described}
use Rattle.vmmu.proofs.HeldTables.{held_set}
use Rattle.vmmu.proofs.tables.Tables4.make_table.Goals as goal

pub clear_frame-requires-clause-shown : goal.clear_frame-requires-clause-shown
clear_frame-requires-clause-shown c =
    c.held_tables_law.ensures.unhidden c.args.self.now.frames c.args.self.now.root c.args.frame c.args.mem.now c.requires.books
    (ap is_hidden (declarable _ c.args.level c.args.frame c.requires.rule).free)

pub store_entry-requires-clause-shown : goal.store_entry-requires-clause-shown
store_entry-requires-clause-shown c =
    ap (is_book_frame c.args.self.now.frames) c.from.ensures
    ∙ c.held_tables_law.ensures.unhidden c.args.self.now.frames c.args.self.now.root c.args.frame c.args.mem.now c.requires.books
    (ap is_hidden (declarable _ c.args.level c.args.frame c.requires.rule).free)

pub replace-requires-clause-counted : goal.replace-requires-clause-counted
replace-requires-clause-counted c =
    let count : length (kinds_in c.args.mem.now) ≡ c.args.self.now.frames =
    (c.stored_law.ensures.count c.args.self.now.frames c.args.mem.now c.requires.books.stored).0 in
    let most : length (kinds_in c.args.mem.now) ≤ 65536 = omega (arith, count, c.frames-frames.ensures.frames, c.frames-frames.ensures.bounds) in
    let set_then : descriptors_in c.set_kind.new.mem
    ≡ record (descriptors_in c.args.mem.now) { kinds = set (kinds_in c.args.mem.now) c.args.frame (Table c.args.level) } =
    c.set_kind.ensures.set
    ∙ ap (λ (d : Descriptors). record d { kinds = set d.kinds c.args.frame (Table c.args.level) })
    (c.store_entry.ensures.descriptors ∙ c.clear_frame.ensures.descriptors) in
    subst (IsReplaceable c.args.level 0 c.last_value-last.result) (sym set_then)
    (c.descriptor_law.ensures.absent_replaceable (descriptors_in c.args.mem.now) (entry_in (seen c.args.mem.now)) c.args.frame c.args.level 0 c.last_value-last.result (Table c.args.level)
    c.requires.books.described.counted most absent_zero)

pub returns-clause-memory : goal.returns-clause-memory
returns-clause-memory c =
    c.stored_law.ensures.unseen c.set_kind.new.self c.set_kind.new.mem c.replace.new.mem c.set_kind.ensures.held c.replace.ensures.elsewhere
    ∙ c.stored_law.ensures.unseen c.args.self.now.frames c.store_entry.new.mem c.set_kind.new.mem c.store_entry.ensures.held c.set_kind.ensures.elsewhere
    ∙ c.store_entry.ensures.seen
    ∙ (λ j. stored (c.clear_frame.ensures.seen j) (stores 8 (4096 * c.from.ensures j + 8 * 511) (c.last_value-last.ensures j)))

pub returns-clause-books : goal.returns-clause-books
returns-clause-books c =
    let call = declarable _ c.args.level c.args.frame c.requires.rule in
    let set_then : descriptors_in c.set_kind.new.mem
    ≡ record (descriptors_in c.args.mem.now) { kinds = set (kinds_in c.args.mem.now) c.args.frame (Table c.args.level) } =
    c.set_kind.ensures.set
    ∙ ap (λ (d : Descriptors). record d { kinds = set d.kinds c.args.frame (Table c.args.level) })
    (c.store_entry.ensures.descriptors ∙ c.clear_frame.ensures.descriptors) in
    let shown : is_book_frame c.args.self.now.frames c.args.frame ≡ false =
    c.held_tables_law.ensures.unhidden c.args.self.now.frames c.args.self.now.root c.args.frame c.args.mem.now c.requires.books
    (ap is_hidden (declarable _ c.args.level c.args.frame c.requires.rule).free) in
    let memory : seen c.replace.new.mem ≡ memory_declared (seen c.args.mem.now) c.args.level c.args.frame =
    c.stored_law.ensures.unseen c.set_kind.new.self c.set_kind.new.mem c.replace.new.mem c.set_kind.ensures.held c.replace.ensures.elsewhere
    ∙ c.stored_law.ensures.unseen c.args.self.now.frames c.store_entry.new.mem c.set_kind.new.mem c.store_entry.ensures.held c.set_kind.ensures.elsewhere
    ∙ c.store_entry.ensures.seen
    ∙ (λ j. stored (c.clear_frame.ensures.seen j) (stores 8 (4096 * c.from.ensures j + 8 * 511) (c.last_value-last.ensures j))) in
    let change : IsReplaced c.args.level 0 (last_value c.args.level)
    (record (descriptors_in c.args.mem.now) { kinds = set (kinds_in c.args.mem.now) c.args.frame (Table c.args.level) }) (descriptors_in c.replace.new.mem) =
    subst (λ (d : Descriptors). IsReplaced c.args.level 0 (last_value c.args.level) d (descriptors_in c.replace.new.mem)) set_then
    (subst (λ last. IsReplaced c.args.level 0 last (descriptors_in c.set_kind.new.mem) (descriptors_in c.replace.new.mem)) c.last_value-last.ensures c.replace.ensures.replaced) in
    let described : AreDescribed (descriptors_in c.replace.new.mem) c.args.self.now.root (seen c.replace.new.mem) =
    subst (AreDescribed (descriptors_in c.replace.new.mem) c.args.self.now.root) (sym memory)
    (declared_described c.descriptor_law.ensures c.memory_tables_law.ensures (descriptors_in c.args.mem.now) c.args.self.now.root (seen c.args.mem.now) c.requires.books.described (descriptors_in c.replace.new.mem) c.args.level c.args.frame
    call change
    (c.table_calls_law.ensures.declared (kinds_in c.args.mem.now) c.args.self.now.root c.args.level c.args.frame (seen c.args.mem.now) c.requires.books.described.sound c.requires.rule).1) in
    let stays : c.replace.new.self ≡ c.args.self.now.frames = c.replace.ensures.stays ∙ c.set_kind.ensures.stays in
    subst (λ frames. HoldsTables frames c.args.self.now.root c.replace.new.mem) (sym stays)
    (held_set c.args.self.now.frames c.args.self.now.root c.args.mem.now c.replace.new.mem c.requires.books
    (subst (λ frames. HoldsDescriptors frames c.replace.new.mem) stays c.replace.ensures.held) described c.args.frame (Table c.args.level) shown change.kinds)
