use Rattle.std.proofs.Common.{ap, ◌∙◌}
use Rattle.std.proofs.lemmas.Bool.{and_parts}
use Rattle.nk_bits.specs.Kinds.{kind_of}
use Rattle.nested_tests.proofs.SmallOpening.{IsSmall, SeenLaws, small_held}
use Rattle.nested_tests.proofs.tables.begin.Goals as goal

pub start-frames-requires-clause-slot : goal.start-frames-requires-clause-slot
start-frames-requires-clause-slot c =
    let zero = and_parts _ _ c.if-are_fixed-are_kinds.true in
    let alone = and_parts _ _ zero.0 in
    let entries = and_parts _ _ alone.0 in
    let directory = and_parts _ _ entries.1 in
    let others = and_parts _ _ entries.0 in
    let tenth = and_parts _ _ others.0 in
    let ninth = and_parts _ _ tenth.0 in
    let eighth = and_parts _ _ ninth.0 in
    record {
      table = c.is_fixed-4.ensures eighth.1;
      directory = c.is_fixed-5.ensures ninth.1;
      named = λ i inside present.
          ap (kind_of c.args.kinds.now) (c.names-3.ensures directory.1 i inside present) ∙ c.is_fixed-6.ensures tenth.1;
    }

pub returns-then-are_fixed-are_kinds : goal.returns-then-are_fixed-are_kinds
returns-then-are_fixed-are_kinds c =
    let zero = and_parts _ _ c.if-are_fixed-are_kinds.true in
    let alone = and_parts _ _ zero.0 in
    let entries = and_parts _ _ alone.0 in
    let directory = and_parts _ _ entries.1 in
    let others = and_parts _ _ entries.0 in
    let tenth = and_parts _ _ others.0 in
    let ninth = and_parts _ _ tenth.0 in
    let eighth = and_parts _ _ ninth.0 in
    let seventh = and_parts _ _ eighth.0 in
    let sixth = and_parts _ _ seventh.0 in
    let root = and_parts _ _ others.1 in
    let books = and_parts _ _ root.0 in
    let slot = and_parts _ _ directory.0 in
    let laws : SeenLaws = record {
      mask = c.mask_law.ensures;
      descriptor = c.descriptor_law.ensures;
      stored = c.stored_law.ensures;
    } in
    let small : IsSmall c.args.kinds.now c.args.mem.now = record {
      size = c.requires.memory;
      count = c.requires.kinds;
      hidden = c.are_books_hidden.ensures books.0;
      root = c.is_root.ensures root.1;
      others = c.is_one_table.ensures books.1;
      handler = c.is_fixed.ensures sixth.0;
      slot_root = c.is_fixed-2.ensures sixth.1;
      area_root = c.is_fixed-3.ensures seventh.1;
      table = c.is_fixed-4.ensures eighth.1;
      directory = c.is_fixed-5.ensures ninth.1;
      named = c.is_fixed-6.ensures tenth.1;
      root_rest = (c.is_slot_alone.ensures alone.1).0;
      root_last = (c.is_slot_alone.ensures alone.1).1;
      slot_names = c.names.ensures slot.0;
      area_names = c.names-2.ensures slot.1;
      directory_names = c.names-3.ensures directory.1;
    } in
    small_held laws c.args.kinds.now c.args.mem.now small c.start-frames.result c.start-frames.new.mem c.start-frames.ensures.count c.start-frames.ensures.kinds
    c.start-frames.ensures.counted c.start-frames.ensures.held c.start-frames.ensures.elsewhere
